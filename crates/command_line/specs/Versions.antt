-- The versions of certificates that may be asked for.
use Rattle.std.specs.Prelude.{ℕ, Bool, ◌&&◌, nat_le, Option, Some, None, if◌then◌else◌}
use Rattle.command_line.specs.declared.cert_version.CertVersion.{CertVersion}
use Rattle.command_line.specs.declared.cert_version.CertVersion.TheVariants.{Two, Three, Four}

abbrev pub first_version : ℕ
first_version = 2

abbrev pub last_version : ℕ
last_version = 4

abbrev pub is_version : ℕ → Bool
is_version number = nat_le first_version number && nat_le number last_version

-- this number, if it is that of a version
abbrev pub version_with : ℕ → Option ℕ
version_with number = if is_version number then Some number else None

abbrev pub number_of : CertVersion → ℕ
number_of Two = 2
number_of Three = 3
number_of Four = 4
