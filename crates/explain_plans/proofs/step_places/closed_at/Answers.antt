use Rattle.std.proofs.Common.{rules, arith, ◌≡◌, ℕ, ◌∙◌, sym, ap, length}
use Rattle.tokens.specs.Cut.{cut}
use Rattle.tokens.specs.Lexeme.{lexemes_left, placed_of}
use Rattle.tokens.proofs.LexemeReading.{few_lexemes}
use Rattle.model.specs.PlanText.{placed_from}
use Rattle.model.specs.Fault.{Span}
use Rattle.std.specs.Prelude.{Some}
use Rattle.explain_plans.specs.StepPlaces.{place_from}
use Rattle.explain_plans.proofs.StepPlaceLemmas.{closed_here, passed_here, counted_more, kept_same}
use Rattle.explain_plans.proofs.step_places.closed_at.Goals as goal

pub lexemes-init : goal.lexemes-init
lexemes-init c =
    let all : lexemes_left c.into_iter-lexeme-iterator.result ≡ placed_from 0 (cut c.args.text.now) = ap lexemes_left c.into_iter-lexeme-iterator.ensures.into_iter_gives ∙ c.of-lexeme-items.ensures in
    let sizes = ap length all in
    let few = few_lexemes c.args.text.now in
    record {
      few = omega (arith, sizes, few);
      same = ap (place_from c.args.step 0 0) all;
    }

pub after-opened-requires : goal.after-opened-requires
after-opened-requires c =
    let few = c.lexemes.invariant.few in
    let sizes = ap length c.in-Some.ensures.steps in
    omega (arith, few, sizes)

pub returns-then-is_closed : goal.returns-then-is_closed
returns-then-is_closed c =
    ap (λ (end : ℕ). let s : Span = record { start = c.lexemes.opened.last; end = end } in Some s) c.span-span.ensures.end
    ∙ sym (closed_here (lexemes_left c.lexemes.lexeme-iterator) (lexemes_left c.next.new.self) (placed_of c.in-Some.lexeme) c.in-Some.ensures.steps c.shape-shape.result c.shape-shape.ensures c.args.step c.lexemes.opened.count c.lexemes.opened.last (sym c.is_closed.ensures ∙ c.if-is_closed.true))
    ∙ c.lexemes.invariant.same

pub lexemes-preserved : goal.lexemes-preserved
lexemes-preserved c = record {
  few = counted_more (lexemes_left c.lexemes.lexeme-iterator) (lexemes_left c.next.new.self) (placed_of c.in-Some.lexeme) c.shape-shape.result c.lexemes.opened.count c.after-opened.result.count (length c.args.text.now) c.in-Some.ensures.steps c.lexemes.invariant.few c.after-opened.ensures.count;
  same = kept_same c.args.step (lexemes_left c.next.new.self) c.lexemes.opened.count c.lexemes.opened.last c.after-opened.result.count (placed_of c.in-Some.lexeme).start c.span-span.result.start c.shape-shape.result c.span-span.ensures.start c.after-opened.ensures.count c.after-opened.result.last c.after-opened.ensures.last
      ∙ sym (passed_here (lexemes_left c.lexemes.lexeme-iterator) (lexemes_left c.next.new.self) (placed_of c.in-Some.lexeme) c.in-Some.ensures.steps c.shape-shape.result c.shape-shape.ensures c.args.step c.lexemes.opened.count c.lexemes.opened.last (sym c.is_closed.ensures ∙ c.if-is_closed.false))
      ∙ c.lexemes.invariant.same;
}

pub returns : goal.returns
returns c = sym (ap (place_from c.args.step c.lexemes.opened.count c.lexemes.opened.last) c.in-None.ensures.steps.0) ∙ c.lexemes.invariant.same
