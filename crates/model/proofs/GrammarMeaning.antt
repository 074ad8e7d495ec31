-- The machine and the grammar agree: the machine finishes exactly on the words that can be derived, with their tree.
use Rattle.std.proofs.Common.{◌≡◌, ℕ, List, [], ◌∷◌, Option, None, Some, refl, ◌∙◌, ap, subst}
use Rattle.std.specs.Option.{option_map}
use Rattle.model.specs.Trees.{TaskFile, Domain, Problem}
use Rattle.model.specs.GrammarWords.{Token}
use Rattle.model.specs.Grammar.{Sort, Value, Phrase, gives, ◌>>=◌, and_then, after, Derives, by, Follows, nothing, next, Tree, file, IsFile, IsDomain, IsProblem}
use Rattle.model.specs.GrammarMachine.{finished, stopped, go_on, run}
use Rattle.model.specs.Refusals.{number_after, start}

-- words derived from a nonterminal take the machine from the nonterminal to what follows its tree
mutual
  pub derived : {T : Type 0} {s : Sort} {w r : List Token} {x : Value s} → Derives s w x r → (k : Value s → Phrase T) → run w (s >>= k) ≡ run r (k x)
  derived {T} {s} {r = r} {x} (by {t = t} {w = w} {p = p} e d) k =
      ap (λ o. go_on (option_map (λ q. and_then q k) o) (run w) (stopped (number_after (s >>= k) t) (t ∷ w))) e ∙ followed d k

  pub followed : {T : Type 0} {s : Sort} {p : Phrase (Value s)} {w r : List Token} {x : Value s} → Follows s p w x r → (k : Value s → Phrase T) → run w (and_then p k) ≡ run r (k x)
  followed nothing k = refl
  followed (next {k = h} d f) k = derived d (λ y. and_then (h y) k) ∙ followed f k

-- the converse, by the words
unfinished : {T : Type 0} {code : ℕ} {w : List Token} {x : T} → stopped code w ≡ finished x → ⊥
unfinished e = cc

-- what follows two phrases in sequence follows the first, and then the second
data Parted (s u : Sort) (p : Phrase (Value u)) (k : Value u → Phrase (Value s)) (w r : List Token) (x : Value s) : Type 0 where
  parts_of : (y : Value u) (v : List Token) → Follows u p w y v → Follows s (k y) v x r → Parted s u p k w r x

parted : (s u : Sort) (p : Phrase (Value u)) (k : Value u → Phrase (Value s)) (w r : List Token) (x : Value s) → Follows s (and_then p k) w x r → Parted s u p k w r x
parted s u (gives y) k w r x f = parts_of y w nothing f
parted s u (m >>= h) k w r x (next {v = v} {y = z} d f) = onto (parted s u (h z) k v r x f)
  where
    onto : Parted s u (h z) k v r x → Parted s u (m >>= h) k w r x
    onto (parts_of y v g h) = parts_of y v (next d g) h

-- a phrase runs to its tree
pub phrase_run : {s : Sort} {p : Phrase (Value s)} {w r : List Token} {x : Value s} → Follows s p w x r → run w p ≡ run r (gives x)
phrase_run nothing = refl
phrase_run (next {k = k} d f) = derived d k ∙ phrase_run f

-- a file's phrase
pub sound : (f : TaskFile) (w : List Token) (p : Phrase Tree) (x : Tree) → run w p ≡ finished x → Follows (file f) p w x []
sound f [] (gives y) x e = let same : y ≡ x = cc in subst (λ z. Follows (file f) (gives y) [] z []) same nothing
sound f [] (s >>= k) x e = absurd (unfinished e)
sound f (t ∷ w) (gives y) x e = absurd (unfinished e)
sound f (t ∷ w) (s >>= k) x e = by_after (after s t) refl (λ q. sound f w q x) e
  where
    by_after : (o : Option (Phrase (Value s))) → after s t ≡ o → ((q : Phrase Tree) → run w q ≡ finished x → Follows (file f) q w x []) → go_on (option_map (λ p. and_then p k) o) (run w) (stopped (number_after (s >>= k) t) (t ∷ w)) ≡ finished x → Follows (file f) (s >>= k) (t ∷ w) x []
    by_after None is again e = absurd (unfinished e)
    by_after (Some p) is again e = by_parts (parted (file f) s p k w [] x (again (and_then p k) e))
      where
        by_parts : Parted (file f) s p k w [] x → Follows (file f) (s >>= k) (t ∷ w) x []
        by_parts (parts_of y v g h) = next (by is g) h

-- the words of a file are those on which the machine finishes
pub file_run : {f : TaskFile} {w : List Token} {x : Tree} → IsFile f w x → run w (start f) ≡ finished x
file_run d = derived d gives

pub run_file : (f : TaskFile) (w : List Token) (x : Tree) → run w (start f) ≡ finished x → IsFile f w x
run_file f w x e = by_next (sound f w (start f) x e)
  where
    by_next : Follows (file f) (start f) w x [] → IsFile f w x
    by_next (next d nothing) = d

-- a list of words has at most one tree
pub one_tree : {f : TaskFile} {w : List Token} {x y : Tree} → IsFile f w x → IsFile f w y → x ≡ y
one_tree d e = let a = file_run d in let b = file_run e in cc

pub one_domain : (w : List Token) (d e : Domain) → IsDomain w d → IsDomain w e → d ≡ e
one_domain w d e g h = let same = one_tree g h in cc

pub one_problem : (w : List Token) (p q : Problem) → IsProblem w p → IsProblem w q → p ≡ q
one_problem w p q g h = let same = one_tree g h in cc
