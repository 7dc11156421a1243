-- `writing::put_trailer` meets its contract: each part is put right behind the one before. Assumes nothing.
use Rattle.bytes_at.proofs.Puts.{put_put}
use Rattle.writing.specs.Written.{trailer}
use Rattle.writing.proofs.put_trailer.Goals as goal

pub returns : goal.returns
unfolding trailer
returns c =
    put_put c.put_number-count.ensures.put (put_put c.put_number-record_count.ensures.put (put_put c.put_number-mark.ensures.put c.put.ensures))
