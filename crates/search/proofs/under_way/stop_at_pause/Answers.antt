use Rattle.std.proofs.Common.{false, refl}
use Rattle.faults.proofs.Results.{if_ok}
use Rattle.search.proofs.Halts.{stops_by_guide}
use Rattle.search.proofs.Valued.{valued_alone}
use Rattle.search.proofs.under_way.stop_at_pause.Goals as goal

pub stop_asking-requires-clause-search : goal.stop_asking-requires-clause-search
stop_asking-requires-clause-search g c =
    let was = c.requires.search in
    let is = c.without_bases-search.ensures in
    let guide = c.args.guide.now in
    record {
      value = g.G.Guide.estimate_of guide;
      is_dead = g.G.Guide.is_dead guide;
      valued = valued_alone _ _ _ _ _ _ is.bases (g.met.G.Guide.is_admissible guide) (g.met.G.Guide.reports_dead_ends guide);
      holds = record {
        one_each = rw (is.store, is.nodes) was.one_each;
        nodes = rw (is.store, is.nodes, is.open_list) was.nodes;
        heap = rw is.open_list was.heap;
        single = rw is.open_list was.single;
      };
    }

pub stop_asking-requires-clause-successors : goal.stop_asking-requires-clause-successors
stop_asking-requires-clause-successors g c = rw (c.without_bases-search.ensures.store, c.without_bases-search.ensures.nodes) c.requires.successors

pub stop_asking-requires-clause-classes : goal.stop_asking-requires-clause-classes
stop_asking-requires-clause-classes g c = rw c.without_bases-search.ensures.store c.requires.classes

pub returns : goal.returns
returns g c =
    let t = g.G.Guide.system_of c.args.guide.now in
    let class_of = g.L.StateListing.class_of c.args.search.progress.store in
    let value = g.G.Guide.estimate_of c.args.guide.now in
    let is_dead = g.G.Guide.is_dead c.args.guide.now in
    if_ok c.stop_asking.result (λ stop by max_states within. stops_by_guide t class_of value is_dead false refl g.L.StateListing.states max_states stop (by max_states within))
    (rw c.without_bases-search.ensures.store at c.stop_asking.ensures)
