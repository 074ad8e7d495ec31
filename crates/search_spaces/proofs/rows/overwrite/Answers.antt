use Rattle.std.proofs.Common.{◌≡◌, ◌∙◌, ◌+◌, ◌-◌, ◌++◌, length, take, drop, sym, ap, arith}
use Rattle.std.proofs.lemmas.List.{append_assoc, drop-drop}
use Rattle.search_spaces.proofs.rows.overwrite.Goals as goal

pub returns : goal.returns
returns c =
    let words = c.args.words.now in
    let row = c.args.row.now in
    let start = c.args.start in
    let long : start + length row - start ≡ length row = omega arith in
    ap (λ n. take start words ++ (c.copy_from_slice.new.self ++ drop n (drop start words))) long
    ∙ ap (λ xs. take start words ++ (xs ++ drop (length row) (drop start words))) c.copy_from_slice.ensures.after
    ∙ ap (λ xs. take start words ++ (row ++ xs)) (drop-drop (length row) start words)
    ∙ sym (append_assoc (take start words) row (drop (start + length row) words))
