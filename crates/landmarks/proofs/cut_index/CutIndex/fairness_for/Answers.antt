use Rattle.std.proofs.Common.{◌≡◌, ◌∙◌, true, false, map, sym, subst}
use Rattle.std.specs.List.{list_all}
use Rattle.model.specs.NumberedLiterals.{literals_of_goal}
use Rattle.landmark_zones.specs.Landmarks.{landmarks_of, share_of}
use Rattle.potentials.specs.declared.allowance.Allowance.TheVariants.{Cost, Nothing}
use Rattle.landmarks.specs.CutIndex.{allowed_at, asked_in, atoms_of, task_of, total_at}
use Rattle.landmarks.specs.Fairness.{function_over, has_one}
use Rattle.landmarks.proofs.FairnessLemmas.{dead-fair-as, fair-as, not-of-goal, unfair-as}
use Rattle.landmarks.proofs.CutLemmas.{all-within, some-beyond}
use Rattle.landmarks.proofs.cut_index.CutIndex.fairness_for.Goals as goal

pub returns-then-not-are_of_goal-clause-fairness : goal.returns-then-not-are_of_goal-clause-fairness
returns-then-not-are_of_goal-clause-fairness c beside are =
    let task = task_of c.args.self.now in
    let atoms = atoms_of c.args.self.now in
    let h = function_over beside (landmarks_of c.args.landmarks.now).zones (map share_of c.args.shares.now) in
    not-of-goal task atoms h (subst (λ literals. list_all (has_one literals) h.landmarks ≡ false) c.goal_literals.ensures (sym c.are_of_goal.ensures ∙ c.if-not-are_of_goal.true))

pub returns-then-stays_within-clause-fairness : goal.returns-then-stays_within-clause-fairness
returns-then-stays_within-clause-fairness c beside are =
    let index = c.args.self.now in
    let task = task_of index in
    let atoms = atoms_of index in
    let zones = (landmarks_of c.args.landmarks.now).zones in
    let shares = c.args.shares.now in
    let h = function_over beside zones (map share_of shares) in
    let goals : list_all (has_one (literals_of_goal task atoms)) h.landmarks ≡ true =
    subst (λ literals. list_all (has_one literals) h.landmarks ≡ true) c.goal_literals.ensures (sym c.are_of_goal.ensures ∙ c.if-not-are_of_goal.false) in
    dead-fair-as task atoms beside zones shares (asked_in index) are index.kept goals
    (all-within (allowed_at task atoms Nothing) (total_at task atoms zones shares) (asked_in index) c.stays_within.result c.stays_within.ensures.within c.if-stays_within.true)

pub returns-then-stays_within-2-clause-fairness : goal.returns-then-stays_within-2-clause-fairness
returns-then-stays_within-2-clause-fairness c beside are =
    let index = c.args.self.now in
    let task = task_of index in
    let atoms = atoms_of index in
    let zones = (landmarks_of c.args.landmarks.now).zones in
    let shares = c.args.shares.now in
    let h = function_over beside zones (map share_of shares) in
    let goals : list_all (has_one (literals_of_goal task atoms)) h.landmarks ≡ true =
    subst (λ literals. list_all (has_one literals) h.landmarks ≡ true) c.goal_literals.ensures (sym c.are_of_goal.ensures ∙ c.if-not-are_of_goal.false) in
    fair-as task atoms beside zones shares (asked_in index) are index.kept goals
    (some-beyond (allowed_at task atoms Nothing) (total_at task atoms zones shares) (asked_in index) c.stays_within.result c.stays_within.ensures.within c.if-stays_within.false)
    (all-within (allowed_at task atoms Cost) (total_at task atoms zones shares) (asked_in index) c.stays_within-2.result c.stays_within-2.ensures.within c.if-stays_within-2.true)

pub returns-clause-fairness : goal.returns-clause-fairness
returns-clause-fairness c beside are =
    let index = c.args.self.now in
    let task = task_of index in
    let atoms = atoms_of index in
    let zones = (landmarks_of c.args.landmarks.now).zones in
    let shares = c.args.shares.now in
    unfair-as task atoms beside zones shares (asked_in index) are index.kept
    (some-beyond (allowed_at task atoms Cost) (total_at task atoms zones shares) (asked_in index) c.stays_within-2.result c.stays_within-2.ensures.within c.if-stays_within-2.false)
