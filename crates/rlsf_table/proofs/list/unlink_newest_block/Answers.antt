-- The block is taken out of the list of its class, and the class's head is set to the next one.
use Rattle.std.proofs.Common.{◌≡◌, ℕ, ◌+◌, [], ◌∷◌, ◌++◌, List, ◌∙◌, ap, arith, inl, refl, subst, sym}
use Rattle.rlsf_base.specs.declared.memory.range.Range.{Range}
use Rattle.rlsf_base.specs.Space.{Space, word_at}
use Rattle.rlsf_table.specs.FreeList.{Links}
use Rattle.rlsf_table.specs.Rewrites.{IsLink, Rewrites}
use Rattle.rlsf_table.specs.FreeTable.{IsFreeTable}
use Rattle.rlsf_table.specs.Steps.ClassList.{IsFreeList}
use Rattle.rlsf_table.specs.Table.{IsNewestAt, Table, head_at, of_class}
use Rattle.rlsf_table.proofs.Costs.{Costs-counted, Costs-loaded, Costs-then, Costs-within}
use Rattle.rlsf_table.proofs.Tables.Linking.{HasTable-removal, IsFreeList-amid, IsHeadOf-removal, Rewrites-amid_class}
use Rattle.rlsf_table.proofs.FreeLists.Counted.{IsFreeList-counted, Rewrites-counted_first, word_at-counted}
use Rattle.rlsf_table.proofs.FreeLists.Read.{next_word}
use Rattle.rlsf_table.proofs.FreeLists.Touches.{front_touches}
use Rattle.rlsf_table.proofs.Words.Writes.{fits_at}
use Rattle.rlsf_table.proofs.list.unlink_newest_block.Given as given
use Rattle.rlsf_table.proofs.list.unlink_newest_block.Goals as goal
use Rattle.rlsf_table.proofs.list.unlink_newest_block.Goals.{After-take}

-- the list of the class begins with the block
list_from : {fllen sllen : ℕ} {m : Space} {t : Table} (r : Range) (before after : List Range) {fl sl : ℕ} → IsNewestAt fllen sllen r before fl sl
    → IsFreeTable fllen sllen m t (before ++ (r ∷ after))
    → IsFreeList m (head_at t fl sl) (r ∷ of_class sllen fl sl after)
list_from {fllen} {sllen} {m} {t} r before after {fl} {sl} newest list =
    subst (λ l. IsFreeList m (head_at t fl sl) (l ++ (r ∷ of_class sllen fl sl after))) newest.first (IsFreeList-amid before r after fl sl list newest.at)

-- a word before the link is written, and the list: neither the read nor the table changed a byte
kept_word : (g : given.Over) (c : After-take g) (a : ℕ) → word_at c.take.new.memory a ≡ word_at c.args.memory.now a
kept_word g c a =
    let read = c.load_at-next.ensures in
    let counts = c.take.ensures.counts in
    word_at-counted c.args.memory.now c.take.new.memory (counts.start ∙ read.start) (counts.bytes ∙ read.bytes) (counts.out ∙ read.out) a

kept_list : (g : given.Over) (c : After-take g) {head : ℕ} {free : List Range} → IsFreeList c.args.memory.now head free → IsFreeList c.take.new.memory head free
kept_list g c list =
    let read = c.load_at-next.ensures in
    let counts = c.take.ensures.counts in
    IsFreeList-counted c.args.memory.now c.take.new.memory (counts.start ∙ read.start) (counts.bytes ∙ read.bytes) (counts.out ∙ read.out) list

pub overflow_add-block : goal.overflow_add-block
overflow_add-block g c =
    let (r, before, after, place, newest, table) = c.requires.newest in
    let list = list_from r before after newest table in
    record { fits = fits_at 16 (omega arith) refl place (list.placed r (inl refl)) list.addressable }

pub load_at-next-requires-clause-place : goal.load_at-next-requires-clause-place
load_at-next-requires-clause-place g c =
    let (r, before, after, place, newest, list) = c.requires.newest in
    next_word r (inl refl) (list_from r before after newest list) place

pub unlink_between-requires-clause-listed : goal.unlink_between-requires-clause-listed
unlink_between-requires-clause-listed g c =
    let (r, before, after, place, newest, list) = c.requires.newest in
    let kept = kept_list g (goal.at.unlink_between-requires-clause-listed g c).After-take (list_from r before after newest list) in
    (r, r ∷ of_class g.row.SLLEN c.args.class.fl c.args.class.sl after, head_at c.args.table.now c.args.class.fl c.args.class.sl, place, inl refl, kept)

pub unlink_between-requires-clause-links : goal.unlink_between-requires-clause-links
unlink_between-requires-clause-links g c =
    let (r, before, after, place, newest, list) = c.requires.newest in
    let m = c.args.memory.now in
    let word = kept_word g (goal.at.unlink_between-requires-clause-links g c).After-take in
    let none : word_at m (c.args.block + 24) ≡ 0 = ap (λ a. word_at m (a + 24)) (sym place) ∙ (list_from r before after newest list).links.1 in
    (c.load_at-next.ensures.word ∙ sym (word (c.args.block + 16)), sym (word (c.args.block + 24) ∙ none))

pub returns-clause-step : goal.returns-clause-step
returns-clause-step g c =
    λ r before after place newest list.
    let sllen = g.row.SLLEN in
    let m = c.args.memory.now in
    let p = c.unlink_between.new.memory in
    let fl = c.args.class.fl in
    let sl = c.args.class.sl in
    let next = c.load_at-next.result in
    let read = c.load_at-next.ensures in
    let counts = c.take.ensures.counts in
    let kept = kept_list g (goal.at.returns-clause-step g c).After-take (list_from r before after newest list) in
    let (joined, rewritten) = c.unlink_between.ensures.step (head_at c.args.table.now fl sl) r [] (of_class sllen fl sl after) place kept in
    let linked : Links p 0 (of_class sllen fl sl before ++ of_class sllen fl sl after) next =
    subst (λ l. Links p 0 (l ++ of_class sllen fl sl after) next) (sym newest.first) joined in
    let first : Rewrites m p (IsLink (r ∷ of_class sllen fl sl after)) =
    Rewrites-counted_first m c.take.new.memory (counts.start ∙ read.start) (counts.bytes ∙ read.bytes) (counts.out ∙ read.out) rewritten in
    let rewrites : Rewrites m p (IsLink (of_class sllen fl sl before ++ (r ∷ of_class sllen fl sl after))) =
    subst (λ l. Rewrites m p (IsLink (l ++ (r ∷ of_class sllen fl sl after)))) (sym newest.first) first in
    let is_head = IsHeadOf-removal before r after fl sl list newest.at next linked rewrites in
    let bits = c.take.ensures.bits r before after newest.at.class is_head list.table.bits in (
      HasTable-removal before r after fl sl list newest.at next linked rewrites c.take.ensures.heads bits,
      Rewrites-amid_class before r after fl sl list newest.at rewrites,
    )

pub returns-clause-costs : goal.returns-clause-costs
returns-clause-costs g c =
    let one = c.load_at-next in
    let read =
    Costs-loaded c.args.memory.now one.new.self one.ensures.start one.ensures.bytes one.ensures.touches one.ensures.copied one.ensures.view one.ensures.out in
    Costs-within (front_touches one.result) (Costs-then (Costs-then read (Costs-counted c.take.ensures.counts)) c.unlink_between.ensures.costs)
