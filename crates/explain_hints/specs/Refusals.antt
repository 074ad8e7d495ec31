-- The refusal of one of the three files.
use Rattle.explain_hints.specs.declared.texts.File.{File}
use Rattle.faults.specs.declared.refused.RefusalIn.{RefusalIn}

abbrev pub FileRefusal : Type 0
FileRefusal = RefusalIn File
