use Rattle.std.proofs.Common.{◌∙◌, ap}
use Rattle.workload_gen.specs.Putting.{with_bytes}
use Rattle.workload_gen.specs.Roms.{interrupt_vectors, program}
use Rattle.workload_gen.proofs.ImageLaws.{image_with-made}
use Rattle.workload_gen.proofs.roms.workload_image.Goals as goal

pub returns : goal.returns
unfolding program interrupt_vectors
returns c =
    let bytes = ap (λ bytes. with_bytes 0 bytes c.in_ok-image.image) (c.deref.ensures.value ∙ c.in_ok-bytes.ensures) in
    c.put_bytes-3.ensures
    ∙ ap (λ image. with_bytes 43002 interrupt_vectors image) (c.put_bytes-2.ensures ∙ ap (λ image. with_bytes 14336 program image) (c.put_bytes.ensures ∙ bytes))
    ∙ image_with-made c.args.words.now c.in_ok-image.image c.requires c.in_ok-image.ensures
