-- Lines in the buffered bytes, and what is reported for them.
use Rattle.std.proofs.Common.{◌≡◌, ◌≢◌, ℕ, ◌+◌, ◌<◌, ◌≤◌, List, [], ◌∷◌, ◌++◌, codes, take, drop, length, get_or, Option, None, Some, sym, ap, ◌∙◌, subst, append_assoc, arith}
use Rattle.std.specs.Prelude.{Contains, Result, Ok, Err}
use Rattle.std.specs.Io.KnownBytes.{IsAtEnd}
use Rattle.std.specs.List.{position, position_or_len}
use Rattle.std.proofs.lemmas.Bool.{eqb-true}
use Rattle.std.proofs.lemmas.List.{get_or-take, length-take, take-append-drop, take_all}
use Rattle.std.proofs.lemmas.List.Sums.{split_at_first, fails_before_first, passes_at_first}
use Rattle.certificate_reader.specs.declared.line.CertLine.{CertLine}
use Rattle.certificate_definitions.specs.CertificateText.{TextLine, line_text, longest_line, whole_line, HasLine, IsFaultAfter, too_long, cut_short}
use Rattle.certificate_definitions.specs.CertificateMachine.{CertificatePlace, ended, place_after}
use Rattle.certificate_definitions.proofs.Machine.{not_whole}
use Rattle.certificate_reader.specs.declared.stage.Stage.{Stage}
use Rattle.certificate_reader.specs.declared.fault.NextFault.{NextFault}
use Rattle.certificate_reader.specs.declared.fault.NextFault.TheVariants.{Text, Device, NoMemory}
use Rattle.certificate_reader.specs.declared.fault.TextFault.TheVariants.{Form, Version, Truncated, Limit}
use Rattle.certificate_reader.specs.Stages.{IsReadAt}
use Rattle.certificate_reader.specs.Ends.{is_end}
use Rattle.certificate_reader.specs.Ready.{IsGrown}
use Rattle.certificate_reader.proofs.FirstPlaces.{first_at, first_within, passes_nowhere}
use Rattle.certificate_reader.specs.Next.{HasEnd, IsFaultAt, IsNext, IsTaken}
use Rattle.certificate_reader.proofs.FaultsRead.{reported_other_version, reported_too_many, reported_malformed}

-- ---- where lines end

-- there is no LF before the first one
no_end_before : (bytes : List ℕ) (n : ℕ) → n ≤ position_or_len is_end bytes → Contains (take n bytes) 10 → ⊥
no_end_before bytes n before (k, within, same) =
    let below : k < n = omega (arith, within, length-take n bytes) in
    let here : get_or bytes k 10 ≡ 10 = sym (get_or-take n bytes k 10 below) ∙ same in
    absurd (cc (sym (fails_before_first is_end bytes k 10 (omega (arith, below, before))) ∙ ap is_end here))

pub line_splits_off : (bytes : List ℕ) (end : ℕ) → position is_end bytes ≡ Some end → bytes ≡ take end bytes ++ 10 ∷ drop (end + 1) bytes
line_splits_off bytes end at =
    let ends = first_at is_end bytes end at in
    let first : ℕ = position_or_len is_end bytes in
    let below : first < length bytes = subst (λ n. n < length bytes) (sym ends.is_first) ends.within in
    split_at_first is_end bytes 10 below
    ∙ (λ i. take (ends.is_first i) bytes ++ eqb-true (get_or bytes first 10) 10 (passes_at_first is_end bytes 10 below) i ∷ drop (ends.is_first i + 1) bytes)

has_line : (bytes : List ℕ) (end : ℕ) → HasEnd bytes end → (more : List ℕ) → HasLine (bytes ++ more) (take end bytes)
has_line bytes end (at, short) more =
    let ends = first_at is_end bytes end at in (
      drop (end + 1) bytes ++ more,
      ap (λ bytes. bytes ++ more) (line_splits_off bytes end at)
          ∙ append_assoc (take end bytes) (10 ∷ drop (end + 1) bytes) more
          ∙ sym (append_assoc (take end bytes) (10 ∷ []) (drop (end + 1) bytes ++ more)),
      no_end_before bytes end (omega (arith, ends.is_first)),
      omega (arith, short, length-take end bytes),
    )

-- ---- a buffered line

module _ (place : CertificatePlace) (bytes : List ℕ) (end : ℕ) (has : HasEnd bytes end) where
  pub taken : (line : TextLine) → line_text line ≡ take end bytes → (new : List ℕ) → new ≡ drop (end + 1) bytes → bytes ≡ whole_line line ++ new
  taken line text new left =
      line_splits_off bytes end has.0
      ∙ sym (append_assoc (take end bytes) (10 ∷ []) (drop (end + 1) bytes))
      ∙ (λ i. sym text i ++ codes "\n" ++ sym left i)

  -- what is reported for its bytes is reported for the buffer
  pub line_reported : (why : NextFault) → IsReadAt place (take end bytes) (Err why) → (new : List ℕ) → IsTaken place bytes new (Err why)
  line_reported (Text Version) (at, is) new = λ before leads more. reported_other_version before place leads (bytes ++ more) (take end bytes) (has_line bytes end has more) at is
  line_reported (Text Form) (nowhere, limits, other) new = λ before leads more.
      reported_malformed before place leads (bytes ++ more) (take end bytes) (has_line bytes end has more) nowhere limits other
  line_reported (Text Limit) (over, is, limit, same) new = λ before leads more.
      reported_too_many before place leads (bytes ++ more) (take end bytes) (has_line bytes end has more) over is limit same
  line_reported NoMemory reported new = tt
  line_reported _ reported new = reported

-- ---- what was read and what is reported

module _ (place : CertificatePlace) (old waiting : List ℕ) (before after : Option (List ℕ)) (grown : IsGrown before after old waiting) where
  pub next_of_line : (new : List ℕ) (r : Result (CertLine × Stage) NextFault) → IsTaken place waiting new r → IsNext place old new before after r
  next_of_line new (Ok (line, next)) (splits, leads) = (grown.bytes, grown.consumed, sym grown.appended ∙ splits, leads, grown.prompt)
  next_of_line new (Err (Text Truncated)) reported = absurd reported
  next_of_line new (Err (Text why)) reported = (grown.bytes, grown.consumed, subst (λ bytes. IsFaultAt place bytes why) grown.appended reported, grown.prompt)
  next_of_line new (Err Device) reported = absurd reported
  next_of_line new (Err NoMemory) reported = tt

  pub too_long_reported : longest_line < position_or_len is_end waiting → IsNext place old waiting before after (Err (Text Form))
  too_long_reported long = (grown.bytes, grown.consumed, subst (λ bytes. IsFaultAt place bytes Form) grown.appended reported, grown.prompt)
    where
      reported : IsFaultAt place waiting Form
      reported lines leads more =
          too_long (take (longest_line + 1) waiting) (drop (longest_line + 1) waiting ++ more)
          (ap (λ bytes. bytes ++ more) (sym (take-append-drop (longest_line + 1) waiting)) ∙ append_assoc (take (longest_line + 1) waiting) (drop (longest_line + 1) waiting) more)
          (omega (arith, length-take (longest_line + 1) waiting, long, first_within is_end waiting)) (no_end_before waiting (longest_line + 1) (omega (arith, long)))

  pub cut_short_reported : position is_end waiting ≡ None → length waiting ≤ longest_line → IsAtEnd after → IsNext place old waiting before after (Err (Text Truncated))
  cut_short_reported nowhere short at_end = (grown.bytes, grown.consumed, at_end, reported)
    where
      reported : (lines : List TextLine) → place_after lines ≡ Some place → place ≢ ended → IsFaultAfter lines (old ++ grown.bytes) 42
      reported lines leads may_continue =
          subst (λ bytes. IsFaultAfter lines bytes 42) grown.appended
          (cut_short (not_whole lines place leads may_continue)
          (subst (λ bytes. Contains bytes 10 → ⊥) (take_all (position_or_len is_end waiting) waiting (passes_nowhere is_end waiting nowhere)) (no_end_before waiting (position_or_len is_end waiting) (omega arith)))
          short)
