use Rattle.std.proofs.Common.{◌≡◌, ◌<◌, ap, sym, ◌∙◌, length, get_or, arith}
use Rattle.std.proofs.lemmas.List.{get_or_default}
use Rattle.page_pool.specs.Pool.{IsLive}
use Rattle.keyframes.specs.Frames.{page_bytes}
use Rattle.keyframes.proofs.HolderLaws.{read-bytes}
use Rattle.keyframes.proofs.BoardLaws.{written-more}
use Rattle.keyframes.proofs.pages.copy.Goals as goal

pub loop-k-preserved : goal.loop-k-preserved
loop-k-preserved c =
    let h : c.loop-k.k < length c.args.pages.now = omega (arith, c.loop-k-test.true, c.requires.eight) in
    let is : c.index-pages-k.result ≡ get_or c.args.pages.now c.loop-k.k 0 = c.index-pages-k.is ∙ get_or_default c.args.pages.now c.loop-k.k c.index-pages-k.result 0 h in
    let live : IsLive c.args.pool.now c.index-pages-k.result = rw is (c.requires.live c.loop-k.k 0 h) in
    written-more (page_bytes c.args.pool.now) c.args.pages.now c.loop-k.k c.args.into.now c.loop-k.into c.bytes.result.now c.put.new.memory
    c.loop-k.invariant h c.put.ensures.whole (ap (page_bytes c.args.pool.now) (sym is) ∙ read-bytes c.args.pool.now c.index-pages-k.result c.bytes.result.now live c.bytes.ensures.bytes)
    c.put.ensures.bytes
