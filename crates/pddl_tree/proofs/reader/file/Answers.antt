use Rattle.pddl_tree.proofs.Names.{[], ◌∙◌, sym, ap, subst, rules, At, tree_from, name_of, reported, from, bind, phrase, Reports, file_of}
use Rattle.pddl_tree.specs.Head.{at_end}
use Rattle.pddl_tree.specs.Sections.{contents_of, sections_on}
use Rattle.pddl_tree.proofs.Reported.{file_read, refused_by, taken_by, head_stops, outcome, file_ends, all_stop}
use Rattle.pddl_tree.proofs.Heads.{no_head}
use Rattle.pddl_tree.proofs.reader.file.Goals as goal

pub returns-in-Err-clause-refused : goal.returns-in-Err-clause-refused
returns-in-Err-clause-refused c =
    let f = file_of c.args.file in let words = c.args.words.now in let refusal = At c.in-Err.refusal in
    rw c.fault.ensures (refused_by f words (reported refusal) (head_stops f words refusal c.in-Err.ensures.read))

pub returns-in-Err-clause-taken : goal.returns-in-Err-clause-taken
returns-in-Err-clause-taken c = λ whole.
    let f = file_of c.args.file in let words = c.args.words.now in let refusal = At c.in-Err.refusal in
    c.fault.ensures ∙ taken_by f words (reported refusal) (head_stops f words refusal c.in-Err.ensures.read) whole

pub returns-in-Err-clause-head : goal.returns-in-Err-clause-head
returns-in-Err-clause-head c = λ none. rw c.fault.ensures (search rules)

pub returns-in-Ok-rest-clause-read : goal.returns-in-Ok-rest-clause-read
returns-in-Ok-rest-clause-read c =
    let f = file_of c.args.file in let words = c.args.words.now in let n = name_of c.in-Ok.head.0 in let read = contents_of c.rest.new.contents in
    file_read f words (tree_from f n read) (file_ends f n (from words 0) (from words c.in-Ok.head.1) c.in-Ok.ensures.read ∙ ap (outcome f n) (ap (λ d. bind (phrase (sections_on f [] d) (from words c.in-Ok.head.1)) at_end) (sym c.new-contents.ensures) ∙ c.in-Ok-rest.ensures))

pub returns-in-Ok-rest-clause-head : goal.returns-in-Ok-rest-clause-head
returns-in-Ok-rest-clause-head c = λ none. absurd (no_head (file_of c.args.file) c.args.words.now c.in-Ok.ensures.head none)

pub returns-clause-refused : goal.returns-clause-refused
returns-clause-refused c =
    let f = file_of c.args.file in let words = c.args.words.now in let refusal = c.in-Err-rest.refusal in
    rw c.fault-in-Err-rest.ensures (refused_by f words (reported refusal) (all_stop f (name_of c.in-Ok.head.0) words c.in-Ok.head.1 refusal c.in-Ok.ensures.read (subst (λ d. Reports words (bind (phrase (sections_on f [] d) (from words c.in-Ok.head.1)) at_end) refusal) c.new-contents.ensures c.in-Err-rest.ensures)))

pub returns-clause-taken : goal.returns-clause-taken
returns-clause-taken c = λ whole.
    let f = file_of c.args.file in let words = c.args.words.now in let refusal = c.in-Err-rest.refusal in
    c.fault-in-Err-rest.ensures ∙ taken_by f words (reported refusal) (all_stop f (name_of c.in-Ok.head.0) words c.in-Ok.head.1 refusal c.in-Ok.ensures.read (subst (λ d. Reports words (bind (phrase (sections_on f [] d) (from words c.in-Ok.head.1)) at_end) refusal) c.new-contents.ensures c.in-Err-rest.ensures)) whole

pub returns-clause-head : goal.returns-clause-head
returns-clause-head c = λ none. absurd (no_head (file_of c.args.file) c.args.words.now c.in-Ok.ensures.head none)
