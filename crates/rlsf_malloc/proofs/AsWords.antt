-- A heap behind a handle is its words there, and these are the heap again.
use Rattle.std.proofs.Common.{List, [], ◌∷◌, refl, sym, subst}
use base.Fraction.{full_share}
use base.Logic.{ent, ex, via, ex_e, ex_i, never_e}
use denote.Model.Fields.{OwnsFields, Plain-in, plain_out, view_made, view_owns}
use denote.RattleType.{RattleType}
use denote.RawPtr.{Ptr, block_ptr, null_ptr, lies_at}
use denote.Struct.Declared.{Declared, fields, row as struct_row}
use denote.Sub.{Sub, Subs, sub-struct, sub_part, sub_refl}
use seplogic.Ra.Ura.{Ura}
use types.Logic.{Logic, sem}
use Rattle.rlsf_heap.specs.Heap.{HeapView}
use Rattle.rlsf_heap.specs.Words.{WordsView}
use Rattle.rlsf_heap.specs.contracts.heap.Heap as heap
use Rattle.rlsf_heap.specs.contracts.heap.Heap.TheInside as heap_inside
use Rattle.rlsf_heap.specs.contracts.words.HeapWords as heap_words
use Rattle.rlsf_heap.specs.contracts.words.HeapWords.TheInside as words_inside
use Rattle.rlsf_malloc.proofs.HeapKinds.{Kind, row, words}
use Rattle.rlsf_malloc.specs.Words.{AreWordsOf}
use denote.Param.{number, param}

module _ {M : Type 1} {𝓤 : Ura M} (𝓛 : Logic 𝓤) where
  -- fields are themselves
  abbrev same : (Rs : List RattleType) → Subs 𝓛 Rs Rs
  same [] = tt
  same (R ∷ Rs) = (((λ x. x), sub_refl 𝓛 R), same Rs)

module _ (K : Kind) where
  abbrev F : Declared
  F = heap_inside.the_type (param 0 K.B) (param 1 K.B) (param 2 (number K.rows)) (param 3 (number K.classes)) K.ghosts K.ghosts

  abbrev G : Declared
  G = words_inside.the_type (param 0 K.B) (param 1 K.B) (param 2 (number K.rows)) (param 3 (number K.classes)) K.ghosts K.ghosts

  -- the words are those of this heap, of the kind K
  abbrev pub Are : HeapView → WordsView → Type 0
  Are = AreWordsOf K.ghosts.width K.ghosts.width K.rows K.classes

  abbrev view : F.D → HeapView
  view = heap.the_view (param 0 K.B) (param 1 K.B) (param 2 (number K.rows)) (param 3 (number K.classes)) K.ghosts K.ghosts

  abbrev holds : F.D → Type 0
  holds = heap.the_invariant (param 0 K.B) (param 1 K.B) (param 2 (number K.rows)) (param 3 (number K.classes)) K.ghosts K.ghosts

  abbrev words_view : G.D → WordsView
  words_view = heap_words.the_view (param 0 K.B) (param 1 K.B) (param 2 (number K.rows)) (param 3 (number K.classes)) K.ghosts K.ghosts

  abbrev words_hold : G.D → Type 0
  words_hold d = Unit {0}

  -- each owns its fields
  abbrev heap_owns : OwnsFields (row K) (struct_row F)
  heap_owns = view_owns (struct_row F) HeapView (row K).coded view holds

  abbrev words_own : OwnsFields (words K) (struct_row G)
  words_own = view_owns (struct_row G) WordsView (words K).coded words_view words_hold

  -- the fields of both, which are the same
  abbrev to_words : F.D → G.D
  to_words d = record { memory = d.memory; live = d.live; lent = d.lent; table = d.table; state = d.state; ledger = d.ledger; bitmaps = d.bitmaps }

  abbrev to_heap : G.D → F.D
  to_heap d = record { memory = d.memory; live = d.live; lent = d.lent; table = d.table; state = d.state; ledger = d.ledger; bitmaps = d.bitmaps }

  module _ {M : Type 1} {𝓤 : Ura M} (𝓛 : Logic 𝓤) where
    fields_are_words : Sub 𝓛 (struct_row F) (struct_row G) to_words
    fields_are_words = sub-struct 𝓛 F G (same 𝓛 (fields F)) to_words (λ d. refl)

    words_are_fields : Sub 𝓛 (struct_row G) (struct_row F) to_heap
    words_are_fields = sub-struct 𝓛 G F (same 𝓛 (fields G)) to_heap (λ d. refl)

    -- the heap that lies at a pointer is its words
    pub as_words : (v : HeapView) (p : Ptr) → ent 𝓤 (sem 𝓛 (lies_at (row K) full_share p v))
        (ex 𝓤 (λ (w : (w : WordsView) × Are v w). sem 𝓛 (lies_at (words K) full_share p w.0)))
    as_words v null_ptr = never_e 𝓤 _
    as_words v (block_ptr b o) = via 𝓤 _ (plain_out (row K) (struct_row F) heap_owns 𝓛 full_share v b o) (ex_e 𝓤 _ (λ a.
        via 𝓤 _ (sub_part 𝓛 (struct_row F) (struct_row G) to_words fields_are_words full_share a.0 b o) (
        via 𝓤 _ (Plain-in (words K) (struct_row G) words_own 𝓛 full_share (words_view (to_words a.0))
        (to_words a.0) (view_made (struct_row G) WordsView (words K).coded words_view words_hold 𝓛 (words_view (to_words a.0)) (to_words a.0) (refl, tt)) b o)
        (ex_i 𝓤 (λ (w : (w : WordsView) × Are v w). sem 𝓛 (lies_at (words K) full_share (block_ptr b o) w.0)) (words_view (to_words a.0), record { heap = a.1.1; view = a.1.0 })))))

    -- and these are the heap
    pub as_heap : (v : HeapView) (w : WordsView) → Are v w → (p : Ptr) → ent 𝓤 (sem 𝓛 (lies_at (words K) full_share p w)) (sem 𝓛 (lies_at (row K) full_share p v))
    as_heap v w are null_ptr = never_e 𝓤 _
    as_heap v w are (block_ptr b o) = via 𝓤 _ (plain_out (words K) (struct_row G) words_own 𝓛 full_share w b o) (ex_e 𝓤 _ (λ a.
        let same : Are v (words_view a.0) = subst (Are v) (sym a.1.0) are in
        via 𝓤 _ (sub_part 𝓛 (struct_row G) (struct_row F) to_heap words_are_fields full_share a.0 b o)
        (Plain-in (row K) (struct_row F) heap_owns 𝓛 full_share v (to_heap a.0)
        (view_made (struct_row F) HeapView (row K).coded view holds 𝓛 v (to_heap a.0) (same.view, same.heap)) b o)))
