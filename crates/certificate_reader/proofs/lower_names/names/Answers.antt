use Rattle.std.proofs.Common.{◌≡◌, ◌++◌, ◌∷◌, [], map, sym, ap, ◌∙◌, subst}
use Rattle.std.specs.Prelude.{IsTrue}
use Rattle.std.specs.List.{list_all}
use Rattle.std.proofs.lemmas.List.{map-append}
use Rattle.model.specs.PlanWriting.{is_lower_name}
use Rattle.certificate_reader.specs.Lines.{name_of}
use Rattle.certificate_reader.specs.Words.{text_in, then_words}
use Rattle.certificate_reader.proofs.NamesRead.{no_names, one_name_more, more_lower}
use Rattle.certificate_reader.proofs.lower_names.names.Goals as goal

pub returns-then-not-is_lower_name-clause-none : goal.returns-then-not-is_lower_name-clause-none
returns-then-not-is_lower_name-clause-none c =
    let done = map name_of c.words.names.items in
    no_names _ done c.in-Some.bytes.now _ _ c.first_word.ensures
    (ap (λ left. then_words done (text_in left)) (sym c.in-Some.is) ∙ c.words.invariant.read) c.words.invariant.lower (sym c.is_lower_name.ensures ∙ c.if-not-is_lower_name.true)

pub words-preserved : goal.words-preserved
words-preserved c =
    let done = map name_of c.words.names.items in
    let word = c.first_word.result.0.now in
    let read = ap (λ left. then_words done (text_in left)) (sym c.in-Some.is) ∙ c.words.invariant.read in
    let items : map name_of c.push.new.self.items ≡ done ++ word ∷ [] =
    ap (map name_of) c.in_ok-push.ensures.items ∙ map-append name_of c.words.names.items (c.in_ok-copy.field-0 ∷ []) ∙ ap (λ name. done ++ name ∷ []) c.in_ok-copy.ensures in
    record {
      read = ap (λ names. then_words names (text_in c.first_word.result.1)) items
          ∙ one_name_more _ done c.in-Some.bytes.now word _ c.first_word.ensures read;
      lower = subst (λ names. IsTrue (list_all is_lower_name names)) (sym items)
          (more_lower done word c.words.invariant.lower (sym c.is_lower_name.ensures ∙ c.if-not-is_lower_name.false));
    }
