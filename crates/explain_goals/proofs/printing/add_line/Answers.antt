use Rattle.std.proofs.Common.{◌∙◌, [], ◌∷◌, ap, map}
use Rattle.std.proofs.lemmas.List.{map_push}
use Rattle.std.specs.String.{string_bytes}
use Rattle.explain_goals.proofs.printing.add_line.Goals as goal

pub returns : goal.returns
returns c = (string_bytes c.args.line ∷ [], ap (map string_bytes) c.in_ok-push.ensures.items ∙ map_push string_bytes c.args.lines.now.items c.args.line)
