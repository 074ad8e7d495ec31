use Rattle.std.proofs.Common.{◌∙◌, sym}
use Rattle.symmetries.specs.Exchange.{exchange_of}
use Rattle.symmetries.specs.SymmetryTest.{task_tested}
use Rattle.symmetries.proofs.TestSteps.{no_types, no_actions, no_values, no_statics, goal_decides}
use Rattle.symmetries.proofs.symmetry_test.SymmetryTest.is_symmetry.Goals as goal

pub returns-then-not-keeps_types : goal.returns-then-not-keeps_types
returns-then-not-keeps_types c =
    no_types (task_tested c.args.self.now) (exchange_of c.args.exchange.now) c.args.exchange.now.different (sym c.keeps_types.ensures ∙ c.if-not-keeps_types.true)

pub returns-then-not-keeps_actions : goal.returns-then-not-keeps_actions
returns-then-not-keeps_actions c =
    no_actions (task_tested c.args.self.now) (exchange_of c.args.exchange.now) c.args.exchange.now.different (sym c.keeps_types.ensures ∙ c.if-not-keeps_types.false)
    (sym c.keeps_actions.ensures ∙ c.if-not-keeps_actions.true)

pub returns-then-not-keeps_values : goal.returns-then-not-keeps_values
returns-then-not-keeps_values c =
    no_values (task_tested c.args.self.now) (exchange_of c.args.exchange.now) c.args.exchange.now.different (sym c.keeps_types.ensures ∙ c.if-not-keeps_types.false)
    (sym c.keeps_actions.ensures ∙ c.if-not-keeps_actions.false) (sym c.keeps_values.ensures ∙ c.if-not-keeps_values.true)

pub returns-then-not-keeps_statics : goal.returns-then-not-keeps_statics
returns-then-not-keeps_statics c =
    no_statics (task_tested c.args.self.now) (exchange_of c.args.exchange.now) c.args.exchange.now.different (sym c.keeps_types.ensures ∙ c.if-not-keeps_types.false)
    (sym c.keeps_actions.ensures ∙ c.if-not-keeps_actions.false) (sym c.keeps_values.ensures ∙ c.if-not-keeps_values.false) (sym c.keeps_statics.ensures ∙ c.if-not-keeps_statics.true)

pub returns : goal.returns
returns c =
    c.keeps_goal.ensures
    ∙ goal_decides (task_tested c.args.self.now) (exchange_of c.args.exchange.now) c.args.exchange.now.different (sym c.keeps_types.ensures ∙ c.if-not-keeps_types.false)
    (sym c.keeps_actions.ensures ∙ c.if-not-keeps_actions.false) (sym c.keeps_values.ensures ∙ c.if-not-keeps_values.false) (sym c.keeps_statics.ensures ∙ c.if-not-keeps_statics.false)
