-- The two stores are the definition of a word written anew.
use mathlib.Core.Path.{refl}
use Rattle.table_words.specs.Bytes.{set_word}
use Rattle.table_words.proofs.write.Goals as goal

pub returns : goal.returns
unfolding set_word
returns c = refl
