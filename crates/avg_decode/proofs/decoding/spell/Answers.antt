-- The number is the spelling, and a word is that of its own spelling.
use Rattle.std.proofs.Common.{rules}
use Rattle.avg_decode.specs.Word.{spelling_of}
use Rattle.avg_decode.proofs.Spellings.{word_of_spelled}
use Rattle.avg_decode.proofs.decoding.spell.Goals as goal

pub returns-in-Vctr-clause-back : goal.returns-in-Vctr-clause-back
unfolding spelling_of
returns-in-Vctr-clause-back c = word_of_spelled _ _ c.requires (search rules)

pub returns-in-Halt-clause-back : goal.returns-in-Halt-clause-back
unfolding spelling_of
returns-in-Halt-clause-back c = word_of_spelled _ _ c.requires (search rules)

pub returns-in-Svec-clause-back : goal.returns-in-Svec-clause-back
unfolding spelling_of
returns-in-Svec-clause-back c = word_of_spelled _ _ c.requires (search rules)

pub returns-in-Stat-clause-back : goal.returns-in-Stat-clause-back
unfolding spelling_of
returns-in-Stat-clause-back c = word_of_spelled _ _ c.requires (search rules)

pub returns-in-Scal-clause-back : goal.returns-in-Scal-clause-back
unfolding spelling_of
returns-in-Scal-clause-back c = word_of_spelled _ _ c.requires (search rules)

pub returns-in-Cntr-clause-back : goal.returns-in-Cntr-clause-back
unfolding spelling_of
returns-in-Cntr-clause-back c = word_of_spelled _ _ c.requires (search rules)

pub returns-in-Jsrl-clause-back : goal.returns-in-Jsrl-clause-back
unfolding spelling_of
returns-in-Jsrl-clause-back c = word_of_spelled _ _ c.requires (search rules)

pub returns-in-Rtsl-clause-back : goal.returns-in-Rtsl-clause-back
unfolding spelling_of
returns-in-Rtsl-clause-back c = word_of_spelled _ _ c.requires (search rules)

pub returns-in-Jmpl-clause-back : goal.returns-in-Jmpl-clause-back
unfolding spelling_of
returns-in-Jmpl-clause-back c = word_of_spelled _ _ c.requires (search rules)
