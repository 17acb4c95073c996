-- The slice has the word's eight bytes, so its first eight are all of it.
use Rattle.std.proofs.Common.{◌≡◌, ◌-◌, sym, w64, ap, arith, drop, length, length-drop, length-take, ◌∙◌, rules}
use Rattle.rlsf_base.specs.Space.{bytes_in, word_range}
use Rattle.std.specs.Int.{from_le_bytes}
use Rattle.rlsf_base.proofs.Lending.WordIsHere.{word_at-is}
use Rattle.rlsf_base.proofs.memory.open_memory.OpenMemory.word_at.Goals as goal

pub returns-in-Some : goal.returns-in-Some
returns-in-Some c =
    let m = c.args.self.now in
    let read : c.from_le_bytes.result ≡ from_le_bytes w64 (bytes_in m (word_range c.args.addr)) = search rules in
    read ∙ sym (word_at-is m c.args.addr c.requires.place.1.0 c.requires.place.2)

pub returns-in-None : goal.returns-in-None
returns-in-None c =
    let m = c.args.self.now in
    let before = c.args.addr - m.start in
    let bytes = ap length (c.slice_at-b.ensures ∙ ap (bytes_in m) c.word_range.ensures) in
    omega (arith, c.requires.place, c.in-None.ensures.cases, bytes, length-take 8 (drop before m.bytes), length-drop before m.bytes)
