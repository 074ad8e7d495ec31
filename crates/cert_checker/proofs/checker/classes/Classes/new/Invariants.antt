use Rattle.std.proofs.Common.{◌≡◌, ◌≤◌, length}
use Rattle.packed_state.specs.Packed.{bits_of}
use Rattle.packed_state.specs.PooledView.{pooled_width}
use Rattle.certificate.specs.Certificate.{certificate_of, store_in}
use Rattle.cert_checker.specs.Classified.{AreOfOneWidth, AreCheapestUpTo}
use Rattle.cert_checker.proofs.checker.classes.Classes.new.Given as goal

-- the states so far are in their classes
abbrev pub invariant-loop-place : goal.invariant-loop-place
invariant-loop-place l = record {
  low : l.place ≤ length (certificate_of l.cert).lines;
  state : length (bits_of l.state) ≡ pooled_width (store_in l.classes.cert.now);
  cert : l.classes.cert.now ≡ l.cert;
  representatives : l.classes.representatives ≡ l.fn.representatives;
  width : AreOfOneWidth l.classes;
  cheapest : AreCheapestUpTo l.classes l.place;
}
