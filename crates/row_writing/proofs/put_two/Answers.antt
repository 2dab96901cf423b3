-- `put_two` meets its contract: two fields of eight bytes, one behind the other.
use Rattle.row_writing.proofs.WordsRowLaws.{two_words}
use Rattle.row_writing.proofs.put_two.Goals as goal

pub returns : goal.returns
returns c =
    two_words c.args.words.now c.args.first c.requires.0 c.args.out.now c.args.at
    c.put_u64.ensures c.put_u64-2.ensures
