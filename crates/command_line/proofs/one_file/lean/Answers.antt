use Rattle.std.proofs.Common.{◌≡◌, ◌∙◌, ℕ, ◌+◌, ◌++◌, List, [], ◌∷◌, length, sym, ap, arith}
use Rattle.std.specs.Prelude.{reverse}
use Rattle.std.specs.Borrow.{Bor}
use Rattle.std.specs.Path.{components_remaining}
use Rattle.clap.specs.Walk.{Text}
use Rattle.command_line.specs.OneFile.{leave_out}
use Rattle.command_line.specs.View.{texts}
use Rattle.command_line.proofs.LeanLemmas.{name_left, name_listed, name_skipped, none_taken, one_taken}
use Rattle.command_line.proofs.one_file.lean.Goals as goal

pub components-preserved-in-Continue-branch-3 : goal.components-preserved-in-Continue-branch-3
components-preserved-in-Continue-branch-3 c =
    let parts = c.components.parts.items in
    let name = c.in-Normal.name in
    let old = components_remaining c.components.rest in
    let new = components_remaining c.next_back.new.self in
    let up = length c.components.up.items in
    let step = rw c.in-Normal.is at c.in-Some.ensures.steps in
    let taken = none_taken c.pop.result c.components.up.len c.pop.new.self.len c.if-is_none.ensures c.pop.ensures.cases in
    let before : up ≡ 0 = omega (arith, taken.0, c.components.up.ok.0) in
    let after : length c.pop.new.self.items ≡ 0 = omega (arith, taken.1, c.pop.new.self.ok.0) in
    ap (λ (listed : List (Bor Text)). texts listed ++ leave_out (length c.pop.new.self.items) (reverse new)) c.in_ok-push-in-Normal.ensures.items
    ∙ ap (λ (n : ℕ). texts (parts ++ name ∷ []) ++ leave_out n (reverse new)) after
    ∙ sym (name_listed parts name up (λ n. leave_out n (reverse new)) before)
    ∙ sym (ap (λ (left : List Text). texts parts ++ left) (name_left name.now step.1 up old new step.0))
    ∙ c.components.invariant

pub components-preserved : goal.components-preserved
components-preserved c =
    let parts = c.components.parts.items in
    let name = c.in-Normal.name in
    let old = components_remaining c.components.rest in
    let new = components_remaining c.next_back.new.self in
    let up = length c.components.up.items in
    let step = rw c.in-Normal.is at c.in-Some.ensures.steps in
    let taken = one_taken c.pop.result c.components.up.len c.pop.new.self.len c.if-is_none.ensures c.pop.ensures.cases in
    let less : length c.pop.new.self.items + 1 ≡ up = omega (arith, taken, c.components.up.ok.0, c.pop.new.self.ok.0) in
    sym (ap (λ (left : List Text). texts parts ++ left)
    (name_left name.now step.1 up old new step.0 ∙ name_skipped name.now up (length c.pop.new.self.items) (λ n. leave_out n (reverse new)) less))
    ∙ c.components.invariant
