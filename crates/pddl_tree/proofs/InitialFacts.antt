-- What follows a `=` in `:init`.
use Rattle.pddl_tree.proofs.Names.{◌≡◌, ℕ, ◌+◌, List, Some, Result, sym, ◌∙◌, ap, At, WordFault, Word, from, first, made, bind, part, phrase, Reads, Stops, Name, opens, gives, ◌>>=◌, listed, close}
use Rattle.std.specs.Result.{IsErrAnd}
use Rattle.pddl_tree.specs.declared.tree.Fact.{Fact}
use Rattle.pddl_tree.specs.Tree.{fact_of}
use Rattle.pddl_tree.specs.declared.word_fault.WordRefusal.{WordRefusal}
use Rattle.pddl_tree.specs.Costs.{the_last_number, the_initial_fact}
use Rattle.pddl_tree.proofs.Read.{phrase_then}
use Rattle.pddl_tree.proofs.Looks.{open_here, passed, reported_first, reported_along}
use Rattle.model.specs.Grammar.{◌>>◌, Valued, valued, amount, initial_fact}

-- no number, or no `)`, after what has a value
pub number_reported : (list : List Word) (at inside next : ℕ) (n : Name) {f : Valued} (refusal : WordRefusal) (r : Result (Fact × ℕ) WordFault) → first (from list at) ≡ Some opens → inside ≡ at + 1 → part valued (from list inside) ≡ made f (from list next) → Stops list (phrase the_last_number (from list next)) refusal → IsErrAnd r (λ e. e ≡ At refusal) → Reads (phrase (the_initial_fact n)) list at fact_of r
number_reported list at inside next n {f} refusal r o is read reported err =
    let occurs : part (listed valued) (from list at) ≡ made f (from list next) = open_here valued list at o ∙ ap (λ i. part valued (from list i)) (sym is) ∙ read in
    let goes = ap (λ r. bind r (λ f w. phrase (amount >>= λ v. close >> gives (initial_fact n f v)) w)) occurs ∙ phrase_then the_last_number (λ v. gives (initial_fact n f v)) (from list next) in
    passed (Reads (phrase (the_initial_fact n)) list at fact_of) r err
    (reported_along list _ _ (At refusal) goes (reported_first list (phrase the_last_number (from list next)) (λ v w. made (initial_fact n f v) w) (At refusal) reported))
