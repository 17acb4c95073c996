-- What a payload that is resized keeps.
use Rattle.std.specs.Prelude.{◌≡◌, ℕ, take}
use Rattle.rlsf_model_global.specs.Heap.{Heap, content_at}

-- the first n bytes of the payload at `to` are those that the payload at `addr` had before
abbrev pub KeepsFirst : ℕ → Heap → ℕ → Heap → ℕ → Type 0
KeepsFirst n before addr after to = take n (content_at after to) ≡ take n (content_at before addr)
