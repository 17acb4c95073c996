-- The block is taken out of the list of its class; where it was the newest one there, the class's head is set.
use Rattle.std.proofs.Common.{◌≡◌, ℕ, ◌∷◌, ◌++◌, ◌+◌, List, ◌∙◌, ap, arith, inl, length, refl, subst, sym}
use Rattle.rlsf_base.specs.Space.{Space, word_at}
use Rattle.rlsf_base.specs.declared.memory.range.Range.{Range}
use Rattle.rlsf_model_sizes.specs.SizeClass.{class_at}
use Rattle.rlsf_model.proofs.Choices.{has_class-from}
use Rattle.rlsf_model.proofs.Coverage.{IsIn-append_right}
use Rattle.rlsf_table.specs.Counts.{Costs}
use Rattle.rlsf_table.specs.FreeList.{Links}
use Rattle.rlsf_table.specs.Steps.ClassList.{IsFreeList}
use Rattle.rlsf_table.specs.Table.{head_at, of_class}
use Rattle.rlsf_table.proofs.Costs.{Costs-counted, Costs-loaded, Costs-then, Costs-within}
use Rattle.rlsf_table.proofs.Tables.Linking.{HasTable-removal, HasTable-removal_behind, IsFreeList-amid, IsFreeList-of_class, IsHeadOf-removal, Rewrites-amid_class}
use Rattle.rlsf_table.proofs.FreeLists.Classes.{IsIn-of_class_from}
use Rattle.rlsf_table.proofs.FreeLists.Counted.{IsFreeList-counted, Rewrites-counted_first, word_at-counted}
use Rattle.rlsf_table.proofs.FreeLists.Indices.{IsClassAt-told, indices_of, room}
use Rattle.rlsf_table.proofs.FreeLists.Read.{next_word, previous_word}
use Rattle.rlsf_table.proofs.FreeLists.Touches.{between_touches, later_is, newest_touches}
use Rattle.rlsf_table.proofs.Words.Writes.{fits_at}
use Rattle.rlsf_table.proofs.list.unlink_free_block.Given as given
use Rattle.rlsf_table.proofs.list.unlink_free_block.Goals as goal
use Rattle.rlsf_table.proofs.list.unlink_free_block.Goals.{After-load_at-previous}

-- the links of the block were read of the memory m, and no byte changed up to the memory n
record IsRead (m n : Space) (block next previous : ℕ) : Type 0 where
  start : n.start ≡ m.start
  bytes : n.bytes ≡ m.bytes
  out : n.out ≡ m.out
  is_next : next ≡ word_at m (block + 16)
  is_previous : previous ≡ word_at m (block + 24)

reads : (g : given.Over) (c : After-load_at-previous g)
    → IsRead c.args.memory.now c.load_at-previous.new.self c.args.block c.load_at-next.result c.load_at-previous.result
reads g c =
    let one = c.load_at-next.ensures in
    let two = c.load_at-previous.ensures in
    record {
      start = two.start ∙ one.start;
      bytes = two.bytes ∙ one.bytes;
      out = two.out ∙ one.out;
      is_next = one.word;
      is_previous = two.word ∙ word_at-counted c.args.memory.now c.load_at-next.new.self one.start one.bytes one.out (c.args.block + 24);
    }

-- the links are the same in n, and so is the list
links_of : {m n : Space} {block next previous : ℕ} → IsRead m n block next previous → (next ≡ word_at n (block + 16)) × (previous ≡ word_at n (block + 24))
links_of {m} {n} {block} is =
    (is.is_next ∙ sym (word_at-counted m n is.start is.bytes is.out (block + 16)), is.is_previous ∙ sym (word_at-counted m n is.start is.bytes is.out (block + 24)))

list_of : {m n : Space} {block next previous newest : ℕ} {free : List Range} → IsRead m n block next previous → IsFreeList m newest free → IsFreeList n newest free
list_of {m} {n} is list = IsFreeList-counted m n is.start is.bytes is.out list

-- what the two reads cost
so_far : (g : given.Over) (c : After-load_at-previous g) → Costs c.args.memory.now c.load_at-previous.new.self 2 0
so_far g c =
    let one = c.load_at-next in
    let two = c.load_at-previous in
    Costs-then
    (Costs-loaded c.args.memory.now one.new.self one.ensures.start one.ensures.bytes one.ensures.touches one.ensures.copied one.ensures.view one.ensures.out)
    (Costs-loaded one.new.self two.new.self two.ensures.start two.ensures.bytes two.ensures.touches two.ensures.copied two.ensures.view two.ensures.out)

pub overflow_add-block : goal.overflow_add-block
overflow_add-block g c =
    let (r, free, place, len, i, list) = c.requires.listed in
    record { fits = fits_at 16 (omega arith) refl place (list.placed r i) list.addressable }

pub load_at-next-requires-clause-place : goal.load_at-next-requires-clause-place
load_at-next-requires-clause-place g c =
    let sllen = g.row.SLLEN in
    let (r, free, place, len, i, list) = c.requires.listed in
    let (fl, sl, at) = indices_of c.requires.parameters (list.blocks r i) in
    next_word r (IsIn-of_class_from sllen fl sl r free i (has_class-from sllen (class_at fl sl) r at.class)) (IsFreeList-of_class list fl sl at.row at.place) place

pub overflow_add-block-2 : goal.overflow_add-block-2
overflow_add-block-2 g c =
    let (r, free, place, len, i, list) = c.requires.listed in
    record { fits = fits_at 24 (omega arith) refl place (list.placed r i) list.addressable }

pub load_at-previous-requires-clause-place : goal.load_at-previous-requires-clause-place
load_at-previous-requires-clause-place g c =
    let sllen = g.row.SLLEN in
    let (r, free, place, len, i, list) = c.requires.listed in
    let (fl, sl, at) = indices_of c.requires.parameters (list.blocks r i) in
    let one = c.load_at-next.ensures in
    previous_word r (IsIn-of_class_from sllen fl sl r free i (has_class-from sllen (class_at fl sl) r at.class))
    (IsFreeList-counted c.args.memory.now c.load_at-next.new.self one.start one.bytes one.out (IsFreeList-of_class list fl sl at.row at.place)) place

-- ---- the newest block of its class

pub class_of_block-fl-requires-clause-size : goal.class_of_block-fl-requires-clause-size
class_of_block-fl-requires-clause-size g c =
    let (r, free, place, len, i, list) = c.requires.listed in
    let is = reads g (goal.at.class_of_block-fl-requires-clause-size g c).After-load_at-previous in
    (omega (arith, len, room c.requires.parameters (list.blocks r i)), omega (arith, len, (list.placed r i).lies_in, ap length is.bytes, c.is_below_limit.ensures))

pub take-requires : goal.take-requires
take-requires g c =
    let (r, free, place, len, i, list) = c.requires.listed in
    let at = IsClassAt-told c.requires.parameters (list.blocks r i) c.args.len c.class_of_block-fl.result len c.class_of_block-fl.ensures in
    (omega arith, (c.requires.parameters, (at.row, at.place)))

pub unlink_between-requires-clause-listed : goal.unlink_between-requires-clause-listed
unlink_between-requires-clause-listed g c =
    let sllen = g.row.SLLEN in
    let (r, free, place, len, i, list) = c.requires.listed in
    let (fl, sl, at) = indices_of c.requires.parameters (list.blocks r i) in
    let is = reads g (goal.at.unlink_between-requires-clause-listed g c).After-load_at-previous in
    let counts = c.take.ensures.counts in (
      r,
      of_class sllen fl sl free,
      head_at c.args.table.now fl sl,
      place,
      IsIn-of_class_from sllen fl sl r free i (has_class-from sllen (class_at fl sl) r at.class),
      IsFreeList-counted c.load_at-previous.new.self c.take.new.memory counts.start counts.bytes counts.out
          (list_of is (IsFreeList-of_class list fl sl at.row at.place)),
    )

pub unlink_between-requires-clause-links : goal.unlink_between-requires-clause-links
unlink_between-requires-clause-links g c =
    let is = reads g (goal.at.unlink_between-requires-clause-links g c).After-load_at-previous in
    let counts = c.take.ensures.counts in
    let word : (a : ℕ) → word_at c.take.new.memory a ≡ word_at c.load_at-previous.new.self a =
    λ a. word_at-counted c.load_at-previous.new.self c.take.new.memory counts.start counts.bytes counts.out a in
    let links = links_of is in
    (links.0 ∙ sym (word (c.args.block + 16)), sym c.if-previous-eq0.true ∙ links.1 ∙ sym (word (c.args.block + 24)))

pub returns-then-previous-eq0-clause-step : goal.returns-then-previous-eq0-clause-step
returns-then-previous-eq0-clause-step g c =
    λ r before after place len list.
    let sllen = g.row.SLLEN in
    let m = c.args.memory.now in
    let n = c.load_at-previous.new.self in
    let o = c.take.new.memory in
    let fl = c.class_of_block-fl.result.0 in
    let sl = c.class_of_block-fl.result.1 in
    let next = c.load_at-next.result in
    let block = list.blocks r (IsIn-append_right r before (r ∷ after) (inl refl)) in
    let at = IsClassAt-told c.requires.parameters block c.args.len c.class_of_block-fl.result len c.class_of_block-fl.ensures in
    let is = reads g (goal.at.returns-then-previous-eq0-clause-step g c).After-load_at-previous in
    let counts = c.take.ensures.counts in
    let kept = IsFreeList-counted n o counts.start counts.bytes counts.out (list_of is (IsFreeList-amid before r after fl sl list at)) in
    let (linked, rewritten) =
    c.unlink_between.ensures.step (head_at c.args.table.now fl sl) r (of_class sllen fl sl before) (of_class sllen fl sl after) place kept in
    let rewrites = Rewrites-counted_first m o (counts.start ∙ is.start) (counts.bytes ∙ is.bytes) (counts.out ∙ is.out) rewritten in
    let is_head = IsHeadOf-removal before r after fl sl list at next linked rewrites in
    let bits = c.take.ensures.bits r before after at.class is_head list.table.bits in
    (HasTable-removal before r after fl sl list at next linked rewrites c.take.ensures.heads bits, Rewrites-amid_class before r after fl sl list at rewrites)

pub returns-then-previous-eq0-clause-costs : goal.returns-then-previous-eq0-clause-costs
returns-then-previous-eq0-clause-costs g c =
    Costs-within (newest_touches c.load_at-next.result)
    (Costs-then (Costs-then (so_far g (goal.at.returns-then-previous-eq0-clause-costs g c).After-load_at-previous) (Costs-counted c.take.ensures.counts))
    c.unlink_between.ensures.costs)

-- ---- a block behind another one of its class

pub unlink_between-requires-else-previous-eq0-clause-listed : goal.unlink_between-requires-else-previous-eq0-clause-listed
unlink_between-requires-else-previous-eq0-clause-listed g c =
    let sllen = g.row.SLLEN in
    let (r, free, place, len, i, list) = c.requires.listed in
    let (fl, sl, at) = indices_of c.requires.parameters (list.blocks r i) in
    let is = reads g (goal.at.unlink_between-requires-else-previous-eq0-clause-listed g c).After-load_at-previous in (
      r,
      of_class sllen fl sl free,
      head_at c.args.table.now fl sl,
      place,
      IsIn-of_class_from sllen fl sl r free i (has_class-from sllen (class_at fl sl) r at.class),
      list_of is (IsFreeList-of_class list fl sl at.row at.place),
    )

pub unlink_between-requires-else-previous-eq0-clause-links : goal.unlink_between-requires-else-previous-eq0-clause-links
unlink_between-requires-else-previous-eq0-clause-links g c =
    links_of (reads g (goal.at.unlink_between-requires-else-previous-eq0-clause-links g c).After-load_at-previous)

pub returns-else-previous-eq0-clause-step : goal.returns-else-previous-eq0-clause-step
returns-else-previous-eq0-clause-step g c =
    λ r before after place len list.
    let sllen = g.row.SLLEN in
    let m = c.args.memory.now in
    let n = c.load_at-previous.new.self in
    let (fl, sl, at) = indices_of c.requires.parameters (list.blocks r (IsIn-append_right r before (r ∷ after) (inl refl))) in
    let head = head_at c.args.table.now fl sl in
    let is = reads g (goal.at.returns-else-previous-eq0-clause-step g c).After-load_at-previous in
    let kept = list_of is (IsFreeList-amid before r after fl sl list at) in
    let p = c.unlink_between-else-previous-eq0.new.memory in
    let (joined, rewritten) =
    c.unlink_between-else-previous-eq0.ensures.step head r (of_class sllen fl sl before) (of_class sllen fl sl after) place kept in
    let linked : Links p 0 (of_class sllen fl sl before ++ of_class sllen fl sl after) head =
    subst (λ w. Links p 0 (of_class sllen fl sl before ++ of_class sllen fl sl after) w)
    (later_is c.load_at-next.result c.load_at-previous.result head c.if-previous-eq0.false) joined in
    let rewrites = Rewrites-counted_first m n is.start is.bytes is.out rewritten in
    (HasTable-removal_behind before r after fl sl list at head linked rewrites refl, Rewrites-amid_class before r after fl sl list at rewrites)

pub returns-else-previous-eq0-clause-costs : goal.returns-else-previous-eq0-clause-costs
returns-else-previous-eq0-clause-costs g c =
    Costs-within (omega (arith, between_touches c.load_at-next.result c.load_at-previous.result))
    (Costs-then (so_far g (goal.at.returns-else-previous-eq0-clause-costs g c).After-load_at-previous) c.unlink_between-else-previous-eq0.ensures.costs)
