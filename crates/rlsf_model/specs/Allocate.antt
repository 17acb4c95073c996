-- A free range gives its front to a new used block.
use Rattle.std.specs.Prelude.{◌≡◌, ℕ, ◌-◌, Bool, ◌&&◌, ◌||◌, List, [], ◌∷◌, ◌++◌, length, Option, Some, None, IsSome, find, option_and_then, nat_le}
use Rattle.std.specs.Prelude.{nat_lt, ◌==◌, if◌then◌else◌}
use Rattle.std.specs.Option.{option_map_or}
use Rattle.rlsf_base.specs.declared.memory.range.Range.{Range}
use Rattle.rlsf_base.specs.Range.{end_of}
use Rattle.rlsf_model_sizes.specs.SizeClass.{SizeClass, class_of, reaches}
use Rattle.rlsf_model_sizes.specs.Sizes.{request_size}
use Rattle.rlsf_model.specs.Lists.{without}
use Rattle.rlsf_model.specs.Payload.{payload_of, block_for}
use Rattle.rlsf_model.specs.State.{State, Used, between}

-- whether a range has the class
abbrev pub has_class : ℕ → SizeClass → Range → Bool
has_class sllen c f = (class_of sllen f.len).exponent == c.exponent && (class_of sllen f.len).division == c.division

-- the least one of the classes of some ranges that reach a size: the earliest one, by the row and then by the place in it
abbrev pub least_reaching : ℕ → ℕ → List Range → Option SizeClass
least_reaching sllen size [] = None
least_reaching sllen size (f ∷ fs) =
    let c = class_of sllen f.len in
    let least = least_reaching sllen size fs in
    let earlier = option_map_or (λ d. if nat_lt c.exponent d.exponent || (c.exponent == d.exponent && nat_le c.division d.division) then c else d) least c in
    if reaches sllen c size then Some earlier else least

-- the first range of the list that has that class
abbrev pub choice : ℕ → ℕ → List Range → Option Range
choice sllen size free = option_and_then (λ c. find (has_class sllen c) free) (least_reaching sllen size free)

-- some free range is chosen for a layout
abbrev pub HasRoomFor : ℕ → State → ℕ → ℕ → Type 0
HasRoomFor sllen s size align = IsSome (choice sllen (request_size size align) s.free)

-- what a block that begins a span leaves of it: one range, or none if it takes all
abbrev pub rest_behind : Range → ℕ → List Range
rest_behind block end = if nat_lt (end_of block) end then between (end_of block) end ∷ [] else []

-- the used block that takes the front of the range f
abbrev pub placed : Range → ℕ → ℕ → List ℕ → Used
placed f size align bytes =
    let payload = payload_of f.start align in
    record { block = block_for f.start payload size; payload = payload; align = align; bytes = bytes }

-- the state once f gave its front to the used block u: f is taken out, and its rest put in front
abbrev pub given : ℕ → State → Range → Used → State
given sllen s f u = record {
  chunks = s.chunks;
  used = u ∷ s.used;
  free = rest_behind u.block (end_of f) ++ without (has_class sllen (class_of sllen f.len)) s.free;
}

-- the allocation at an address: the choice gives its front, and the payload's bytes are any
pub record Places (sllen : ℕ) (s : State) (size align addr : ℕ) (t : State) : Type 0 where
  pub range : Range
  pub bytes : List ℕ
  pub chosen : choice sllen (request_size size align) s.free ≡ Some range
  pub answer : addr ≡ payload_of range.start align
  pub length : length bytes ≡ end_of (placed range size align bytes).block - addr
  pub after : t ≡ given sllen s range (placed range size align bytes)

-- an allocation is refused exactly if the class of no free range reaches, and then nothing changes
abbrev pub Allocates : ℕ → State → ℕ → ℕ → Option ℕ → State → Type 0
Allocates sllen s size align None t = (choice sllen (request_size size align) s.free ≡ None) × (t ≡ s)
Allocates sllen s size align (Some addr) t = Places sllen s size align addr t
