-- `writing::put_file` meets its contract: the name, the events and the trailer are put one behind the other. Assumes nothing.
use Rattle.bytes_at.proofs.Puts.{put_put}
use Rattle.writing.specs.Written.{written_file}
use Rattle.writing.proofs.put_file.Goals as goal

pub returns : goal.returns
unfolding written_file
returns c =
    put_put c.put-start.ensures (put_put c.put-end.ensures c.put_trailer.ensures)
