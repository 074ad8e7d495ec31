use Rattle.std.proofs.Common.{◌++◌, ◌∙◌, take, sym, ap, append_assoc, take-append-drop, drop}
use Rattle.std.proofs.lemmas.List.{take_rest}
use Rattle.std.proofs.KnownBytes.{Appends-trans}
use Rattle.devices.proofs.device.write_all.Goals as goal

pub writes-preserved : goal.writes-preserved
writes-preserved g c =
    let (done, split, appended) = c.writes.invariant.taken in
    let rest = c.writes.rest.now in
    let count = c.in_ok-count.count in
    let write = c.in_ok-count.ensures in
    record {
      taken = (
        done ++ take count rest,
        split ∙ ap (λ l. done ++ l) (sym (take-append-drop count rest)) ∙ sym (append_assoc done (take count rest) (drop count rest))
            ∙ ap (λ l. (done ++ take count rest) ++ l) (sym (take_rest rest count)),
        Appends-trans _ _ _ _ _ appended write.bytes,
      );
      failures = write.failures ∙ c.writes.invariant.failures;
      name = write.name ∙ c.writes.invariant.name;
    }
