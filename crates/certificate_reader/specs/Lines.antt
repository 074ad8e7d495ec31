-- The code's lines of a certificate's text, in the model's terms.
use Rattle.std.specs.Prelude.{ℕ, List, map}
use Rattle.std.specs.Global.{Vec}
use Rattle.certificate_reader.specs.declared.line.Claim.{Claim}
use Rattle.certificate_reader.specs.declared.line.Claim.TheVariants.{Bound, Unsolvable}
use Rattle.certificate_reader.specs.declared.line.Version.{Version}
use Rattle.certificate_reader.specs.declared.line.Version.TheVariants.{One, Two, Three, Four}
use Rattle.certificate_reader.specs.declared.line.Basis.{Basis}
use Rattle.certificate_reader.specs.declared.line.Basis.TheVariants.{OfAll, Landmark}
use Rattle.certificate_reader.specs.declared.line.Mark.{Mark}
use Rattle.certificate_reader.specs.declared.line.Mark.TheVariants.{Expanded, Cut, Dead}
use Rattle.certificate_reader.specs.declared.line.StateLine.{StateLine}
use Rattle.certificate_reader.specs.declared.line.NamedAtom.{NamedAtom}
use Rattle.certificate_reader.specs.declared.line.CertLine.{CertLine}
use Rattle.certificate_reader.specs.declared.line.CertLine.TheVariants as line
use Rattle.certificate_reader.specs.Parts.{part_of}
use Rattle.model.specs.Claims as claims
use Rattle.certificate_definitions.specs.Certificates as certificates
use Rattle.certificate_definitions.specs.Evidence as evidence
use Rattle.certificate_definitions.specs.CertificateText as text

abbrev pub claim_of : Claim → claims.Claim
claim_of (Bound least) = claims.bound least
claim_of Unsolvable = claims.none

abbrev pub version_of : Version → certificates.Version
version_of One = certificates.one
version_of Two = certificates.two
version_of Three = certificates.three
version_of Four = certificates.four

abbrev pub basis_of : Basis → evidence.Basis
basis_of OfAll = evidence.of_all
basis_of (Landmark number) = evidence.landmark number

abbrev pub mark_of : Mark → evidence.LineMark
mark_of Expanded = evidence.expanded
mark_of (Cut by rest) = evidence.cut (basis_of by) rest
mark_of (Dead by) = evidence.dead (basis_of by)

abbrev pub line_of : StateLine → certificates.StateLine
line_of l = record { cost = l.cost; mark = mark_of l.mark; atoms = l.atoms.items }

abbrev pub name_of : Vec ℕ → List ℕ
name_of name = name.items

abbrev pub named_atom_of : NamedAtom → text.NamedAtom
named_atom_of a = record { predicate = name_of a.predicate; objects = map name_of a.objects.items }

abbrev pub text_line_of : CertLine → text.TextLine
text_line_of (line.Head version) = text.version (version_of version)
text_line_of (line.Claim claim) = text.claims (claim_of claim)
text_line_of (line.Constant k) = text.constant k.items
text_line_of (line.Swap objects) = text.swapped (map name_of objects.items)
text_line_of (line.Weight weights predicate objects) =
    text.atom (record { weights = weights.items; atom = record { predicate = name_of predicate; objects = map name_of objects.items } })
text_line_of (line.Part p) = text.part (part_of p)
text_line_of (line.Listed l) = text.listed (line_of l)
text_line_of (line.Last count) = text.last count
