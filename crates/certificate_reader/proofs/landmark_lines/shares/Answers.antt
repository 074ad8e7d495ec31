use Rattle.std.proofs.Common.{◌<◌, [], ◌∷◌, ◌++◌, Some, map, sym, ap, ◌∙◌, subst}
use Rattle.std.specs.Prelude.{IsTrue}
use Rattle.std.specs.List.{list_all}
use Rattle.std.proofs.lemmas.List.{map-append}
use Rattle.landmark_zones.specs.Landmarks.{share_of}
use Rattle.certificate_reader.specs.Words.{may_be_share, shares_then, text_in}
use Rattle.certificate_reader.proofs.LandmarksRead.{fewer_shares_left, more_may_be, no_shares, one_share_more}
use Rattle.certificate_reader.proofs.NumbersRead.{bytes_left}
use Rattle.certificate_reader.proofs.landmark_lines.shares.Goals as goal

pub returns-in_default-first_share-clause-none : goal.returns-in_default-first_share-clause-none
returns-in_default-first_share-clause-none c =
    let done = map share_of c.words.shares.items in
    no_shares (Some c.args.rest.now) done c.words.invariant.may_be c.in-Some.bytes.now
    (ap (λ left. shares_then done (text_in left)) (sym c.in-Some.is) ∙ c.words.invariant.read) c.in_default-first_share.ensures.none

pub words-preserved : goal.words-preserved
words-preserved c =
    let done = map share_of c.words.shares.items in
    let next = share_of c.in-Some-first_share.share in
    let is = c.in-Some-first_share.ensures.some in
    let pushed = ap (map share_of) c.in_ok-push.ensures.items ∙ map-append share_of c.words.shares.items (c.in-Some-first_share.share ∷ []) in
    let read = ap (λ left. shares_then done (text_in left)) (sym c.in-Some.is) ∙ c.words.invariant.read in
    record {
      read = ap (λ shares. shares_then shares (text_in c.in-Some-first_share.following)) pushed
          ∙ one_share_more (Some c.args.rest.now) done c.words.invariant.may_be c.in-Some.bytes.now read next (text_in c.in-Some-first_share.following) is;
      may_be = subst (λ shares. IsTrue (list_all may_be_share shares)) (sym pushed) (more_may_be done next c.words.invariant.may_be is.may_be);
    }

pub words-smaller : goal.words-smaller
words-smaller c =
    subst (λ left. bytes_left (text_in c.in-Some-first_share.following) < bytes_left (text_in left)) (sym c.in-Some.is) (fewer_shares_left _ _ _ c.in-Some-first_share.ensures.some)

pub returns-clause-some : goal.returns-clause-some
returns-clause-some c = (
  c.words.invariant.may_be,
  ap (λ left. shares_then (map share_of c.words.shares.items) (text_in left)) (sym c.in_default.is) ∙ c.words.invariant.read,
)
