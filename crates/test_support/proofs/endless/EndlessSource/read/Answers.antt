use Rattle.std.proofs.Common.{◌≡◌, ℕ, zero, suc, inl, inr, ◌+◌, ◌-◌, ◌%◌, ◌<◌, ◌≤◌, List, [], ◌∷◌, ◌++◌, ◌∙◌, length, take, drop, min, refl, sym, ap, arith, append_assoc, append-nil, length-append, length-drop}
use Rattle.std.proofs.lemmas.Bool.{cases_lt}
use Rattle.std.proofs.lemmas.List.{drop-drop, take_rest, drop_all}
use Rattle.std.proofs.Math.Nat.{mod_self, mod-eq_of_lt}
use Rattle.test_support.specs.Endless.{or_anew}
use Rattle.devices.proofs.Filling.{from_place, past, rest_of}
use Rattle.test_support.proofs.endless.EndlessSource.read.Goals as goal

take_of_both : (count : ℕ) (front rest : List ℕ) → take count (front ++ rest) ≡ take count front ++ take (count - length front) rest
take_of_both zero front rest = let none : zero - length front ≡ zero = omega arith in ap (λ k. take k rest) (sym none)
take_of_both (suc n) [] rest = let all : suc n - length {A = ℕ} [] ≡ suc n = omega arith in ap (λ k. take k rest) (sym all)
take_of_both (suc n) (x ∷ front) rest =
    let less : n - length front ≡ suc n - length (x ∷ front) = omega arith in
    ap (λ l. x ∷ l) (take_of_both n front rest) ∙ ap (λ k. (x ∷ take n front) ++ take k rest) less

drop_of_both : (count : ℕ) (front rest : List ℕ) → drop count (front ++ rest) ≡ drop count front ++ drop (count - length front) rest
drop_of_both zero front rest = let none : zero - length front ≡ zero = omega arith in ap (λ k. front ++ drop k rest) (sym none)
drop_of_both (suc n) [] rest = let all : suc n - length {A = ℕ} [] ≡ suc n = omega arith in ap (λ k. drop k rest) (sym all)
drop_of_both (suc n) (x ∷ front) rest =
    let less : n - length front ≡ suc n - length (x ∷ front) = omega arith in
    drop_of_both n front rest ∙ ap (λ k. drop n front ++ drop k rest) less

-- what two calls write into a buffer, one after the other, is what one call writes for both lists
filled : (into text again first second : List ℕ) (of_text : ℕ) → of_text ≡ min (length into) (length text)
    → first ≡ take (length into) text ++ drop (length text) into
    → second ≡ take (length (drop of_text first)) again ++ drop (length again) (drop of_text first)
    → take of_text first ++ second ≡ take (length into) (text ++ again) ++ drop (length (text ++ again)) into
filled into text again first second of_text count room following =
    let (front, left) = past into text first of_text count room in
    let rest = drop (length again) (drop (length text) into) in
    let room_left : length (drop of_text first) ≡ length into - length text = ap length left ∙ length-drop (length text) into in
    let second_is : second ≡ take (length into - length text) again ++ rest =
    following ∙ ap (λ k. take k again ++ drop (length again) (drop of_text first)) room_left
    ∙ ap (λ l. take (length into - length text) again ++ drop (length again) l) left in
    let rest_is : rest ≡ drop (length (text ++ again)) into =
    drop-drop (length again) (length text) into ∙ ap (λ k. drop k into) (sym (length-append text again)) in
    ap (λ l. l ++ second) front ∙ ap (λ l. take (length into) text ++ l) second_is
    ∙ sym (append_assoc (take (length into) text) (take (length into - length text) again) rest)
    ∙ ap (λ l. l ++ rest) (sym (take_of_both (length into) text again))
    ∙ ap (λ l. take (length into) (text ++ again) ++ l) rest_is

or_anew_of_some : (rest bytes : List ℕ) → 0 < length rest → rest ≡ or_anew rest bytes
or_anew_of_some [] bytes some = absurd (omega (arith, some))
or_anew_of_some (byte ∷ rest) bytes some = refl

-- the position in the repeating bytes after some of the rest is consumed
turned : (bytes : List ℕ) (front : List ℕ) (place gone : ℕ) → place + gone ≤ length bytes
    → (place + gone ≡ length bytes → front ≡ []) → 0 < length bytes
    → front ++ drop ((place + gone) % length bytes) bytes ≡ or_anew (front ++ drop (place + gone) bytes) bytes
turned bytes front place gone within used some =
    elim (cases_lt (place + gone) (length bytes)) [
      | inl less ↦
          let rest = front ++ drop (place + gone) bytes in
          let more : 0 < length rest = omega (arith, less, length-append front (drop (place + gone) bytes), length-drop (place + gone) bytes) in
          ap (λ k. front ++ drop k bytes) (mod-eq_of_lt less) ∙ or_anew_of_some rest bytes more
      | inr whole ↦
          let all : place + gone ≡ length bytes = omega (arith, within, whole) in
          let begun : (place + gone) % length bytes ≡ 0 = ap (λ n. n % length bytes) all ∙ mod_self (length bytes) in
          let gone_all : front ++ drop (place + gone) bytes ≡ [] =
          ap (λ l. l ++ drop (place + gone) bytes) (used all) ∙ drop_all (place + gone) bytes whole in
          ap (λ l. l ++ drop ((place + gone) % length bytes) bytes) (used all) ∙ ap (λ k. drop k bytes) begun ∙ ap (λ l. or_anew l bytes) (sym gone_all)
    ]

-- the rest of the text and of the repeating bytes
left_over : (text bytes : List ℕ) (text_read place of_text gone room : ℕ) → place < length bytes
    → of_text ≡ min room (length (drop text_read text))
    → gone ≡ min (room - length (drop text_read text)) (length (drop place bytes))
    → drop (text_read + of_text) text ++ drop ((place + gone) % length bytes) bytes
    ≡ or_anew (drop room (drop text_read text ++ drop place bytes)) bytes
left_over text bytes text_read place of_text gone room in_bytes count more =
    let rest = drop text_read text in
    let again = drop place bytes in
    let front = rest_of text text_read of_text room count in
    let following = rest_of bytes place gone (room - length rest) more in
    let long = length-drop place bytes in
    let used : place + gone ≡ length bytes → drop room rest ≡ [] = λ all. drop_all room rest (omega (arith, all, more, long, in_bytes)) in
    ap (λ l. l ++ drop ((place + gone) % length bytes) bytes) front
    ∙ turned bytes (drop room rest) place gone (omega (arith, more, long, in_bytes)) used (omega (arith, in_bytes))
    ∙ ap (λ l. or_anew (drop room rest ++ l) bytes) following ∙ ap (λ l. or_anew l bytes) (sym (drop_of_both room rest again))

pub returns-clause-room : goal.returns-clause-room
returns-clause-room c =
    let into = c.args.into.now in
    let self = c.args.self.now in
    let first = c.fill-of_text.new.into in
    let second = c.fill-of_again.new.into in
    let of_text = c.fill-of_text.result in
    let text_rest = from_place _ _ self.text_read c.as_slice.ensures.value in
    let again_rest = from_place _ _ self.again_read c.as_slice-2.ensures.value in
    let text = drop self.text_read self.text.items in
    let again = drop self.again_read self.again.items in
    let room = take_rest first of_text in
    let following : second ≡ take (length (drop of_text first)) again ++ drop (length again) (drop of_text first) =
    c.fill-of_again.ensures.room ∙ ap (λ l. take (length (take (length first - of_text) (drop of_text first))) l ++ drop (length l) (take (length first - of_text) (drop of_text first))) again_rest
    ∙ ap (λ l. take (length l) again ++ drop (length again) l) room in
    let none : drop (length first - of_text) (drop of_text first) ≡ [] =
    drop_all (length first - of_text) (drop of_text first) (omega (arith, length-drop of_text first)) in
    ap (λ l. take of_text first ++ (second ++ l)) none ∙ ap (λ l. take of_text first ++ l) (append-nil second)
    ∙ filled into text again first second of_text
    (c.fill-of_text.ensures.count ∙ ap (λ l. min (length into) (length l)) text_rest)
    (c.fill-of_text.ensures.room ∙ ap (λ l. take (length into) l ++ drop (length l) into) text_rest)
    following

pub returns-clause-left : goal.returns-clause-left
returns-clause-left c =
    let into = c.args.into.now in
    let self = c.args.self.now in
    let first = c.fill-of_text.new.into in
    let of_text = c.fill-of_text.result in
    let of_again = c.fill-of_again.result in
    let text_rest = from_place _ _ self.text_read c.as_slice.ensures.value in
    let again_rest = from_place _ _ self.again_read c.as_slice-2.ensures.value in
    let text = drop self.text_read self.text.items in
    let again = drop self.again_read self.again.items in
    let long : c.len.result ≡ length self.again.items = c.len.ensures ∙ sym c.as_slice-2.ensures.len ∙ ap length c.as_slice-2.ensures.value in
    let count : of_text ≡ min (length into) (length text) = c.fill-of_text.ensures.count ∙ ap (λ l. min (length into) (length l)) text_rest in
    let (front, left) = past into text first of_text count (c.fill-of_text.ensures.room ∙ ap (λ l. take (length into) l ++ drop (length l) into) text_rest) in
    let room : length (take (length first - of_text) (drop of_text first)) ≡ length into - length text =
    ap length (take_rest first of_text ∙ left) ∙ length-drop (length text) into in
    let more : of_again ≡ min (length into - length text) (length again) =
    c.fill-of_again.ensures.count ∙ ap (λ l. min (length (take (length first - of_text) (drop of_text first))) (length l)) again_rest
    ∙ ap (λ n. min n (length again)) room in
    ap (λ n. drop (self.text_read + of_text) self.text.items ++ drop ((self.again_read + of_again) % n) self.again.items) long
    ∙ left_over self.text.items self.again.items self.text_read self.again_read of_text of_again (length into)
    (omega (arith, self.in_again, long, c.len.ensures)) count more
