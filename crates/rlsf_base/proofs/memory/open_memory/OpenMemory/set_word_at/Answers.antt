use Rattle.std.proofs.Common.{◌≡◌, ◌+◌, ◌-◌, ◌∙◌, ap, arith}
use Rattle.std.specs.List.{splice}
use Rattle.rlsf_base.specs.Changes.{came_back}
use Rattle.rlsf_base.specs.OpenSpace.{out_with}
use Rattle.rlsf_base.specs.Space.{Space, with_word, word_range}
use Rattle.rlsf_base.proofs.Lending.BytesBeside.{with-here, with-stays}
use Rattle.rlsf_base.proofs.Lending.Placed.{can_write, placed}
use Rattle.rlsf_base.proofs.Words.Written.{is_own-written, length-with_word}
use Rattle.rlsf_base.proofs.memory.open_memory.OpenMemory.set_word_at.Goals as goal

pub write_word-requires : goal.write_word-requires
write_word-requires c =
    let word = word_range c.args.addr in
    can_write c.self.invariant c.self.view_is c.requires.view (omega arith) word c.requires.place.1 c.place.ensures c.requires.place.2

pub returns : goal.returns
returns c =
    let now = c.args.self.now in let n = c.touch.new.self in let is = c.self.view_is in let writable = c.requires.place in
    let addr = c.args.addr in let word = c.args.word in let e = c.write_word.ensures in let t = c.touch.ensures in
    let place : c.place.result - c.self.inside.bytes.skip ≡ addr - now.start =
    placed c.self.invariant is c.requires.view (omega arith) (word_range addr) writable.1 c.place.ensures in
    let start : n.start ≡ now.start = t.start ∙ ap (λ (s : Space). s.start) is in
    let bytes : n.bytes ≡ with_word now addr word = t.bytes ∙ e.0.2 ∙ (λ i. splice (is i).bytes (place i) (place i + 8) (c.to_le_bytes.ensures i)) in
    let out : n.out ≡ out_with now (word_range addr) = t.out ∙ e.1 ∙ (λ i. came_back (place i) 8 (is i).out) in
    record {
      start = start;
      bytes = bytes;
      len = length-with_word now n addr word writable start bytes out;
      touches = t.touches ∙ ap (λ (s : Space). s.touches + 1) is;
      copied = t.copied ∙ ap (λ (s : Space). s.copied) is;
      view = t.view ∙ ap (λ (s : Space). s.view) is;
      out = out;
      own = is_own-written now n addr word writable start bytes out;
      here = with-here now n (word_range addr) writable.1.0 start out;
      stays = with-stays now n (word_range addr) writable.1.0 start out;
    }
