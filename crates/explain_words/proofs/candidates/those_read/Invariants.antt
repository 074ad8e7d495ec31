use Rattle.std.proofs.Common.{take}
use Rattle.pddl_tree.specs.Tree.{file_of}
use Rattle.explain_words.specs.Expected.{AreThose, MayFollow}
use Rattle.explain_words.proofs.candidates.those_read.Given as goal

-- those of the candidates so far are told
abbrev pub invariant-loop-word : goal.invariant-loop-word
invariant-loop-word l = AreThose (MayFollow (file_of l.fn.file) l.before) (take l.word-index l.candidates) l.found.items
