-- The numbers so far are those of the words so far.
use Rattle.std.proofs.Common.{vec_items}
use Rattle.std.specs.Str.Iter.{split_whitespace_rest}
use Rattle.fit_line.proofs.Sofar.{Sofar}
use Rattle.fit_line.proofs.words.numbers_of.Given as goal

abbrev pub invariant-loop-word : goal.invariant-loop-word
invariant-loop-word l = Sofar l.text (split_whitespace_rest l.word-iterator) (vec_items l.numbers)
