-- The text stands on the page.
use mathlib.Core.Path.{refl}
use Rattle.lines.proofs.Writing.{put_part}
use Rattle.lines.proofs.Page.put_text.Goals as goal

pub returns : goal.returns
returns c =
    let p = c.args.self.now in
    record { same = refl; put = rw (c.copy_from_slice.ensures.after, put_part c.args.text.now p.bytes.now p.at c.requires) }
