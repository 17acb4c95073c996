use Rattle.std.proofs.Common.{◌≡◌, ◌+◌, ◌-◌, ◌%◌, ◌∙◌, ap, arith, length, refl}
use Rattle.std.proofs.lemmas.Grind.{common_steps}
use Rattle.rlsf_base.specs.Lends.{refilled}
use Rattle.rlsf_base.specs.Space.{Space, bytes_in, with_bytes}
use Rattle.rlsf_base.specs.Out.{kept_at}
use Rattle.rlsf_base.proofs.Changes.{none-out}
use Rattle.rlsf_base.proofs.Words.Splices.{length-part, length-splice}
use Rattle.rlsf_base.proofs.memory.open_memory.OpenMemory.copy_within_whole.Goals as goal

pub slice_mut-bytes-requires : goal.slice_mut-bytes-requires
slice_mut-bytes-requires c =
    let long : length c.self.inside.bytes.bytes ≡ length c.args.self.now.bytes = ap (λ (s : Space). length s.bytes) c.self.view_is in (
      c.self.invariant.lies.0,
      (
        (omega arith, omega (arith, c.len-len.ensures.value, long)),
        λ k lo hi. ap (λ cs. kept_at cs k) (ap (λ (s : Space). s.out) c.self.view_is ∙ c.requires.whole) ∙ none-out k,
      ),
    )

pub returns : goal.returns
returns c =
    let now = c.args.self.now in let is = c.self.view_is in let range = c.args.range in let counted = c.count_copy.ensures in
    let moved = bytes_in now range in
    let long : length moved ≡ range.len = length-part range.len (range.start - now.start) now.bytes (omega (arith, c.requires.from)) in
    let m = c.self.inside in
    let bytes : refilled m.bytes.bytes (m.len_and_skip % 16 - m.bytes.skip) c.len-len.result c.copy_in_slice.new.bytes ≡ with_bytes now c.args.to moved =
    grind (arith, common_steps) in
    record {
      start = ap (λ (s : Space). s.start) is;
      bytes = bytes;
      len = ap length bytes ∙ length-splice now.bytes moved (c.args.to - now.start) (length moved) (omega (arith, c.requires.to, long)) refl;
      touches = counted.0 ∙ ap (λ (s : Space). s.touches) is;
      copied = counted.1 ∙ ap (λ (s : Space). s.copied + range.len) is;
      view = ap (λ (s : Space). s.view) is;
      out = ap (λ (s : Space). s.out) is ∙ c.requires.whole;
    }
