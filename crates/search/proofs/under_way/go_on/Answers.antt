use Rattle.std.proofs.Common.{ℕ, List, Bool, false, refl, subst}
use Rattle.model.specs.Runs.{System}
use Rattle.faults.proofs.Results.{if_ok}
use Rattle.search.specs.DeadEnds.{ReportsDeadEnds}
use Rattle.search.specs.Estimates.{IsAdmissible}
use Rattle.search.proofs.Valued.{valued_alone}
use Rattle.search.proofs.Halts.{halts_by_guide}
use Rattle.search.proofs.under_way.go_on.Goals as goal

pub go_on_asking-requires-clause-values_for : goal.go_on_asking-requires-clause-values_for
go_on_asking-requires-clause-values_for g c = c.requires.made_for

pub go_on_asking-requires-clause-values_width : goal.go_on_asking-requires-clause-values_width
go_on_asking-requires-clause-values_width g c = c.requires.guide_width

pub go_on_asking-requires-clause-under_way : goal.go_on_asking-requires-clause-under_way
go_on_asking-requires-clause-under_way g c =
    let was = c.requires.under_way in
    let is = c.without_bases-search.ensures in
    let value = g.G.Guide.estimate_of c.args.guide.now in
    let is_dead = g.G.Guide.is_dead c.args.guide.now in
    record {
      value = value;
      is_dead = is_dead;
      valued = valued_alone _ _ _ _ _ _ is.bases (subst (λ (u : System (List Bool) ℕ). IsAdmissible u value) c.requires.made_for (g.met.G.Guide.is_admissible c.args.guide.now))
          (subst (λ (u : System (List Bool) ℕ). ReportsDeadEnds u is_dead) c.requires.made_for (g.met.G.Guide.reports_dead_ends c.args.guide.now));
      holds = record {
        search = record {
          one_each = rw (is.store, is.nodes) was.search.one_each;
          nodes = rw (is.store, is.nodes, is.open_list) was.search.nodes;
          heap = rw is.open_list was.search.heap;
          single = rw is.open_list was.search.single;
        };
        are_open = rw (is.store, is.nodes) was.are_open;
        within = rw is.store was.within;
        store_classes = refl;
        store_width = rw is.store was.store_width;
        buffers = rw is.buffers was.buffers;
        scratch = rw is.buffers was.scratch;
      };
    }

pub go_on_asking-requires-clause-classes : goal.go_on_asking-requires-clause-classes
go_on_asking-requires-clause-classes g c = rw c.without_bases-search.ensures.store c.requires.classes

pub returns : goal.returns
returns g c =
    if_ok c.go_on_asking.result
    (halts_by_guide (g.T.TransitionSystem.means c.args.system.now) (g.L.StateListing.class_of c.args.search.progress.store) (g.G.Guide.estimate_of c.args.guide.now) (g.G.Guide.is_dead c.args.guide.now)
    false refl (g.G.Guide.fits c.args.guide.now) g.L.StateListing.states g.L.StateListing.class_of g.L.StateListing.width_of (g.T.TransitionSystem.width_of c.args.system.now) c.args.pause c.args.max_states)
    (rw c.without_bases-search.ensures.store at c.go_on_asking.ensures.halt)
