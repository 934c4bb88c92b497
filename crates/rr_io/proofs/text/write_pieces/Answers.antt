use Rattle.std.proofs.Common.{sym, subst}
use Rattle.std.specs.Io.KnownBytes.{Appends}
use Rattle.rr_io.proofs.TextLemmas.{behind_buffer}
use Rattle.rr_io.proofs.text.write_pieces.Goals as goal

pub returns-in-Ok-ended : goal.returns-in-Ok-ended
returns-in-Ok-ended g c =
    let contents = g.W.Write.contents in
    let bytes = g.T.Text.bytes c.args.text.now in
    let taken = behind_buffer (contents c.in-Ok.buffered.inner) (contents c.write_buffered-ended.new.out.inner) c.in-Ok.buffered.buf.items
    c.write_buffered-ended.new.out.buf.items bytes c.in-Ok.ensures.empty c.in-Ok-ended.ensures.empty c.in-Ok-ended.ensures.written in
    subst (λ w. Appends (contents c.args.out) (contents w) bytes) (sym c.into_parts-out.ensures.inner)
    (subst (λ w. Appends (contents w) (contents c.write_buffered-ended.new.out.inner) bytes) c.in-Ok.ensures.inner taken)
