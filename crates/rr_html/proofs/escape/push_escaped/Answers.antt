use Rattle.std.proofs.Common.{get_or}
use Rattle.rr_html.proofs.MarkupLemmas.{byte_is, byte_more}
use Rattle.rr_html.proofs.escape.push_escaped.Goals as goal

pub loop-byte-preserved : goal.loop-byte-preserved
loop-byte-preserved c =
    let out = c.loop-byte.out.items in
    let next = c.push_byte.new.out.items in
    let i = c.loop-byte.byte-index in
    let new = c.in_ok-push_byte.ensures.ok in (
      byte_more out next _ c.args.text.now i c.loop-byte-test.true c.loop-byte.invariant.0 new,
      λ is. byte_is out next (get_or c.args.text.now i 0) (c.loop-byte.invariant.1 is) new,
    )
