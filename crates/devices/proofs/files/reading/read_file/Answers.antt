use Rattle.devices.proofs.Readings.{answered_reading}
use Rattle.devices.proofs.Readings.{reading_counted}
use Rattle.devices.proofs.files.reading.read_file.Goals as goal

pub returns-clause-bytes : goal.returns-clause-bytes
returns-clause-bytes g c = answered_reading _ _ _ _ c.read_text-text.result c.in_ok-input.ensures.bytes c.read_text-text.ensures.ok

pub returns-clause-failures : goal.returns-clause-failures
returns-clause-failures g c =
    reading_counted _ _ _ _ _ c.read_text-text.result c.in_ok-input.ensures.failures c.in_ok-input.ensures.fresh c.read_text-text.ensures.failures c.finish.ensures.unfailed c.finish.ensures.failed
