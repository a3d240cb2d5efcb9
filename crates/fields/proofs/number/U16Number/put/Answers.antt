use Rattle.fields.proofs.BigEndian.{be_big2}
use Rattle.fields.proofs.number.U16Number.put.Goals as goal

pub word-requires : goal.word-requires
word-requires c = rw (c.to_be_bytes.ensures, be_big2) c.requires

pub returns : goal.returns
returns c = rw (c.to_be_bytes.ensures, be_big2) at c.word.ensures
