use Rattle.plcx_meaning.proofs.words.listed_words.Goals as goal
use Rattle.plcx_meaning.proofs.ListedWords as words

pub returns : goal.returns
returns c = words.listed_words
