-- The words and their order.
use Rattle.std.proofs.Common.{◌≡◌, ◌∙◌, ℕ, ◌<◌, ◌≤◌, ◌^◌, List, [], Bool, true, false, refl, sym, ap, subst, inl, inr, arith}
use Rattle.std.specs.Prelude.{Option, Some, None, IfSome, is_some, if◌then◌else◌, option_map, option_and_then}
use Rattle.std.specs.Str.Parse.{IsNumeral, digits_value, without_leading_plus}
use Rattle.std.proofs.lemmas.Bool.{false≢true, le-leb, leb-true}
use Rattle.std.proofs.lemmas.Option.{same_Some}
use Rattle.clap.specs.Walk.{Text}
use Rattle.clap.specs.Simple.{App, is_simple, subcommand_of, subcommand_rows_of}
use Rattle.clap.specs.Faults.{fault_of, is_simple_and_free}
use Rattle.clap.specs.Kinds.{HasKind}
use Rattle.clap.specs.Values.{kind_of}
use Rattle.clap.specs.ValueTests.{is_unsigned_in}
use Rattle.clap.specs.declared.builder.value_parser.ValueParser.TheVariants.{Unsigned}
use Rattle.clap.specs.declared.error.Error.{Error}
use Rattle.clap.specs.declared.error.kind.ErrorKind.TheVariants.{OutOfMemory}
use Rattle.clap.specs.declared.parser.matches.ArgMatches.{ArgMatches}
use Rattle.clap.proofs.OnLiterals.{clap_on_literals}
use Rattle.clap.proofs.WalkLemmas.{both}
use Rattle.clap.proofs.ValueTestLemmas.{accepts-Accepts, Accepts-accepts}
use Rattle.command_line.specs.Limit.{is_limit, most}
use Rattle.command_line.specs.Description.{optplan}
use Rattle.command_line.specs.Orders.{Asks, IsCommand, Request, fits, limit_of, request_in}
use Rattle.command_line.specs.declared.max_count.MaxCount.{MaxCount}

-- words give only one order
pub one_request : (words : List Text) (a b : Request) → Asks words a → Asks words b → a ≡ b
one_request words a b asks others =
    let same : ◌≡◌ {A = Option Request} (Some a) (Some b) = sym asks.1 ∙ others.1 in cc

-- words whose files do not go together are no command
pub no_command : (words : List Text) (request : Request) → option_and_then request_in (subcommand_of optplan words) ≡ Some request → fits request ≡ false → IsCommand words → ⊥
no_command words request wants loses (other, asks) =
    let same : ◌≡◌ {A = Option Request} (Some request) (Some other) = sym wants ∙ asks.1 in
    false≢true (sym loses ∙ ap fits (same_Some request other same) ∙ asks.2)

-- ---- limits

same_bool : (a b : Bool) → (a ≡ true → b ≡ true) → (b ≡ true → a ≡ true) → a ≡ b
same_bool true b first second = sym (first refl)
same_bool false true first second = second refl
same_bool false false first second = refl

limit_within : (n : ℕ) → 1 ≤ n → n ≤ most → is_limit n ≡ true
limit_within n least most = rw (le-leb _ _ least, le-leb _ _ most) refl

within_limit : (n : ℕ) → is_limit n ≡ true → (1 ≤ n) × (n ≤ most)
within_limit n is = let parts = both _ _ is in (leb-true _ _ parts.0, leb-true _ _ parts.1)

-- a text that reads as a number is a limit exactly if the number is
limit_text : (text : Text) → IsNumeral 10 (without_leading_plus text) → is_unsigned_in 1 most text ≡ is_limit (digits_value 10 (without_leading_plus text))
limit_text text numeral = same_bool _ _
    (λ is. let a = accepts-Accepts false (Unsigned 1 most) text is in limit_within _ a.2 a.3)
    (λ is. let (low, high) = within_limit _ is in Accepts-accepts false (Unsigned 1 most) text (numeral, omega arith, low, high))

limit_made : (o : Option MaxCount) (b : Bool) (number value : ℕ) → is_some o ≡ b → IfSome o (λ l. l.number ≡ number) → number ≡ value
    → option_map (λ l. l.number) o ≡ (if b then Some value else None)
limit_made None true number value some is same = absurd (cc)
limit_made None false number value some is same = refl
limit_made (Some l) true number value some is same = ap Some (is ∙ same)
limit_made (Some l) false number value some is same = absurd (cc)

pub limit_read : (text : Text) (number : ℕ) (o : Option MaxCount) → IsNumeral 10 (without_leading_plus text) → number ≡ digits_value 10 (without_leading_plus text)
    → is_some o ≡ is_limit number → IfSome o (λ l. l.number ≡ number) → option_map (λ l. l.number) o ≡ limit_of text
limit_read text number o numeral value some is =
    limit_made o (is_unsigned_in 1 most text) number (digits_value 10 (without_leading_plus text))
    (some ∙ ap is_limit value ∙ sym (limit_text text numeral)) is value

module _ (text : Text) (fails : IsNumeral 10 (without_leading_plus text) × (digits_value 10 (without_leading_plus text) < 2 ^ 32) → ⊥) where
  no_limit : (b : Bool) → is_unsigned_in 1 most text ≡ b → ◌≡◌ {A = Option ℕ} None (if b then Some (digits_value 10 (without_leading_plus text)) else None)
  no_limit true is = let a = accepts-Accepts false (Unsigned 1 most) text is in absurd (fails (a.0, omega (arith, a.3)))
  no_limit false is = refl

  pub no_limit_read : None ≡ limit_of text
  no_limit_read = no_limit (is_unsigned_in 1 most text) refl

-- ---- the description

pub optplan_is_simple : is_simple_and_free optplan ≡ true
unfolding clap_on_literals
optplan_is_simple = refl

is_simple_too : is_simple optplan ≡ true
unfolding clap_on_literals
is_simple_too = refl

module _ (app : App) (is : app ≡ optplan) (words : List Text) where
  pub asked : (m : ArgMatches) (request : Request) → (is_simple app ≡ true → subcommand_rows_of m ≡ subcommand_of app words)
      → (is_simple_and_free app ≡ true → fault_of app words ≡ []) → Some request ≡ option_and_then request_in (subcommand_rows_of m) → fits request ≡ true → Asks words request
  asked m request matches taken wants keeps =
      let simple : is_simple app ≡ true = ap is_simple is ∙ is_simple_too in
      let free : is_simple_and_free app ≡ true = ap is_simple_and_free is ∙ optplan_is_simple in (
        sym (ap (λ a. fault_of a words) is) ∙ taken free,
        sym (wants ∙ ap (option_and_then request_in) (matches simple ∙ ap (λ a. subcommand_of a words) is)),
        keeps,
      )

  pub not_asked : (m : ArgMatches) → (is_simple app ≡ true → subcommand_rows_of m ≡ subcommand_of app words)
      → None ≡ option_and_then request_in (subcommand_rows_of m) → IsCommand words → ⊥
  not_asked m matches none (request, asks) =
      let simple : is_simple app ≡ true = ap is_simple is ∙ is_simple_too in
      let same : ◌≡◌ {A = Option Request} None (Some request) =
      none ∙ ap (option_and_then request_in) (matches simple ∙ ap (λ a. subcommand_of a words) is) ∙ asks.1 in
      absurd (cc)

  -- the files of the words' order do not go together
  pub unfit : (m : ArgMatches) (request : Request) → (is_simple app ≡ true → subcommand_rows_of m ≡ subcommand_of app words)
      → Some request ≡ option_and_then request_in (subcommand_rows_of m) → fits request ≡ false → IsCommand words → ⊥
  unfit m request matches wants loses (other, asks) =
      let simple : is_simple app ≡ true = ap is_simple is ∙ is_simple_too in
      let same : ◌≡◌ {A = Option Request} (Some request) (Some other) =
      wants ∙ ap (option_and_then request_in) (matches simple ∙ ap (λ a. subcommand_of a words) is) ∙ asks.1 in
      let one : request ≡ other = same_Some request other same in
      false≢true (sym loses ∙ ap fits one ∙ asks.2)

  pub refused : (e : Error) → (is_simple_and_free app ≡ true → HasKind (fault_of app words) e) → (kind_of e ≡ OutOfMemory → ⊥) → IsCommand words → ⊥
  refused e fails of_words (request, asks) =
      let free : is_simple_and_free app ≡ true = ap is_simple_and_free is ∙ optplan_is_simple in
      let kind : HasKind [] e = subst (λ kinds. HasKind kinds e) (ap (λ a. fault_of a words) is ∙ asks.0) (fails free) in
      elim kind [ inl memory ↦ of_words memory | inr among ↦ absurd among ]
