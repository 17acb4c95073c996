-- Where a range of a memory lies in its block: what a call on the block requires.
use Rattle.std.proofs.Common.{◌≡◌, ℕ, ◌-◌, ◌^◌, ◌<◌, ◌∙◌, ap, arith, drop, length, sym, take}
use Rattle.rlsf_base.specs.declared.memory.block.Base.{Base}
use Rattle.rlsf_base.specs.declared.memory.block.Bytes.{Bytes}
use Rattle.rlsf_base.specs.declared.memory.range.Range.{Range}
use Rattle.rlsf_base.specs.declared.memory.view.View.{View}
use Rattle.rlsf_base.specs.declared.memory.zeroed.Supplier.{Supplier}
use Rattle.rlsf_base.specs.OpenSpace.{IsHere, IsOwned, place_in}
use Rattle.rlsf_base.specs.Range.{LiesIn}
use Rattle.rlsf_base.specs.Space.{Space, bytes_in}
use Rattle.rlsf_base.specs.Steps.Block.{IsMemory, memory_of, start_of, view_of}
use Rattle.rlsf_base.specs.Steps.Owners.{Has, HasHere, HasOwn}
use Rattle.rlsf_base.proofs.Lending.Present.{here-in, own-in}

-- the bytes of a range, by its place among the memory's bytes
pub bytes_there : {seen now : Space} → seen ≡ now → (range : Range) {i : ℕ} → i ≡ range.start - now.start → take range.len (drop i seen.bytes) ≡ bytes_in now range
bytes_there {seen} is range place =
    ap (λ n. take range.len (drop n seen.bytes)) (place ∙ ap (λ (s : Space). range.start - s.start) (sym is)) ∙ ap (λ (s : Space). bytes_in s range) is

module _ {base : Base} {shift len_and_skip : ℕ} {bytes : Bytes} {supplier : Supplier} (is : IsMemory base shift len_and_skip bytes supplier) {touches copied : ℕ}
    {now : Space} (view_is : memory_of base shift len_and_skip bytes touches copied ≡ now) {view : View} (seen : view ≡ now.view) (fits : view.shift < 2 ^ 64) where
  same_view : view ≡ view_of base shift
  same_view = seen ∙ sym (ap (λ (s : Space). s.view) view_is)

  -- the place in the block of the range's first byte
  module _ (range : Range) (lies : LiesIn range now.start (length now.bytes)) {at : ℕ} (place : at ≡ place_in view range.start) where
    start : start_of shift len_and_skip ≡ now.start
    start = ap (λ (s : Space). s.start) view_is

    long : length bytes.bytes ≡ length now.bytes
    long = ap (λ (s : Space). length s.bytes) view_is

    shifts : view.shift ≡ shift
    shifts = ap (λ (v : View). v.shift) same_view

    pub placed : at - bytes.skip ≡ range.start - now.start
    placed = omega (arith, fits, start, long, shifts, lies, place, is.lies.1, is.bounds, is.whole)

    within : Has bytes at range.len
    within = grind (arith, start, long, shifts)

    pub can_lend : IsHere now range → (view.base.ptr ≡ bytes.at) × HasHere bytes at range.len
    can_lend here = (
      ap (λ (v : View). v.base.ptr) same_view ∙ is.lies.0,
      (within, here-in bytes.out now range (at - bytes.skip) (ap (λ (s : Space). s.out) view_is) lies.0 placed here),
    )

    pub can_write : IsOwned now range → (view.base.ptr ≡ bytes.at) × HasOwn bytes at range.len
    can_write own = (
      ap (λ (v : View). v.base.ptr) same_view ∙ is.lies.0,
      (within, own-in bytes.out now range (at - bytes.skip) (ap (λ (s : Space). s.out) view_is) lies.0 placed own),
    )
