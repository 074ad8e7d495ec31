-- Where a text with unbalanced parentheses goes wrong.
use Rattle.std.specs.Prelude.{◌≡◌, ℕ, List, ◌++◌, ◌<◌, ◌≤◌, length, map, take, Option, None, Some, IfSome}
use Rattle.std.proofs.Common.{subst, sym}
use Rattle.faults.specs.declared.refused.TextRefusal.{TextRefusal}
use Rattle.tokens.specs.Word.{word_of}
use Rattle.tokens.specs.declared.word.Word.{Word}
use Rattle.model.specs.Words.{ReadsAs}
use Rattle.model.specs.Trees.{TaskFile}
use Rattle.explain_words.specs.Verdict.{IsVerdict}
use Rattle.explain_faults.specs.Wrong.{GoesWrong, IsRefusedIn}

-- what is refused in the words of a text is refused in the text
pub refused_in : (file : TaskFile) (text : List ℕ) (words read : List Word) (found : Option TextRefusal) → ReadsAs text (map word_of words) → read ≡ words
    → IsVerdict file (map word_of read) found → IfSome found (IsRefusedIn file text)
refused_in file text words read None reads same verdict = tt
refused_in file text words read (Some refusal) reads same verdict =
    record { words = read; reads = subst (λ (w : List Word). ReadsAs text (map word_of w)) (sym same) reads; is_refused = verdict }

-- a text goes wrong where a prefix of it with an ending is refused at a word of the prefix
pub goes_wrong : (file : TaskFile) (text whole ending : List ℕ) (kept : ℕ) (found result : Option TextRefusal)
    → kept ≤ length text → whole ≡ take kept text ++ ending → IfSome found (IsRefusedIn file whole)
    → IfSome result (λ r. (found ≡ Some r) × (r.span.start < r.span.end) × (r.span.end ≤ kept))
    → IfSome result (GoesWrong file text)
goes_wrong file text whole ending kept found None is_kept is_whole refused within = tt
goes_wrong file text whole ending kept found (Some r) is_kept is_whole refused within =
    let same : IsRefusedIn file whole r = subst (λ (f : Option TextRefusal). IfSome f (IsRefusedIn file whole)) within.0 refused in
    record {
      kept = kept;
      ending = ending;
      is_kept = is_kept;
      is_refused = subst (λ (all : List ℕ). IsRefusedIn file all r) is_whole same;
      has_bytes = within.1;
      within = within.2;
    }
