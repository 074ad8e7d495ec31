use Rattle.std.proofs.Common.{◌∙◌}
use Rattle.devices.proofs.WrittenFiles.{others_kept}
use Rattle.planner_main.proofs.CountedFiles.{counted_partly, counted_whole}
use Rattle.planner_main.proofs.program.counting.write_counted.Goals as goal

pub returns-in_err-close-clause-partly : goal.returns-in_err-close-clause-partly
returns-in_err-close-clause-partly g c = λ known.
    let made = c.in_ok-output.ensures in
    let counted = c.write_to-written.new.sink in
    counted_partly (g.F.Files.contents c.args.files.now) (g.F.Files.contents c.create.new.self) (g.F.Files.contents c.close.new.self) _ _ (c.write_to-written.ensures.name ∙ made.named known)
    _ _ _ (counted.same known) c.new.ensures _ c.write_to-written.ensures.beginning made.made (c.close.ensures.beginning known)

pub returns-in_err-close-clause-kept : goal.returns-in_err-close-clause-kept
returns-in_err-close-clause-kept g c = λ known.
    let made = c.in_ok-output.ensures in
    others_kept (g.F.Files.contents c.args.files.now) (g.F.Files.contents c.create.new.self) (g.F.Files.contents c.close.new.self) _ _ (c.write_to-written.ensures.name ∙ made.named known) made.kept (c.close.ensures.kept known)

pub returns-in-Ok-clause-held : goal.returns-in-Ok-clause-held
returns-in-Ok-clause-held g c = λ known.
    let made = c.in_ok-output.ensures in
    let counted = c.write_to-written.new.sink in
    counted_whole (g.F.Files.contents c.args.files.now) (g.F.Files.contents c.create.new.self) (g.F.Files.contents c.close.new.self) _ _ (c.write_to-written.ensures.name ∙ made.named known)
    _ _ _ (counted.same known) c.new.ensures _ c.in-Ok.ensures.ok (c.in_ok-close.ensures.written known)

pub returns-in-Ok-clause-partly : goal.returns-in-Ok-clause-partly
returns-in-Ok-clause-partly g c = λ known.
    let made = c.in_ok-output.ensures in
    let counted = c.write_to-written.new.sink in
    counted_partly (g.F.Files.contents c.args.files.now) (g.F.Files.contents c.create.new.self) (g.F.Files.contents c.close.new.self) _ _ (c.write_to-written.ensures.name ∙ made.named known)
    _ _ _ (counted.same known) c.new.ensures _ c.write_to-written.ensures.beginning made.made (c.close.ensures.beginning known)

pub returns-in-Ok-clause-kept : goal.returns-in-Ok-clause-kept
returns-in-Ok-clause-kept g c = λ known.
    let made = c.in_ok-output.ensures in
    others_kept (g.F.Files.contents c.args.files.now) (g.F.Files.contents c.create.new.self) (g.F.Files.contents c.close.new.self) _ _ (c.write_to-written.ensures.name ∙ made.named known) made.kept (c.close.ensures.kept known)

pub returns-in-Err-clause-partly : goal.returns-in-Err-clause-partly
returns-in-Err-clause-partly g c = λ known.
    let made = c.in_ok-output.ensures in
    let counted = c.write_to-written.new.sink in
    counted_partly (g.F.Files.contents c.args.files.now) (g.F.Files.contents c.create.new.self) (g.F.Files.contents c.close.new.self) _ _ (c.write_to-written.ensures.name ∙ made.named known)
    _ _ _ (counted.same known) c.new.ensures _ c.write_to-written.ensures.beginning made.made (c.close.ensures.beginning known)

pub returns-in-Err-clause-kept : goal.returns-in-Err-clause-kept
returns-in-Err-clause-kept g c = λ known.
    let made = c.in_ok-output.ensures in
    others_kept (g.F.Files.contents c.args.files.now) (g.F.Files.contents c.create.new.self) (g.F.Files.contents c.close.new.self) _ _ (c.write_to-written.ensures.name ∙ made.named known) made.kept (c.close.ensures.kept known)
