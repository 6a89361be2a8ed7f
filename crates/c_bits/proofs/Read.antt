-- Bits read as registers: what stands at a place is read where it stands, and what is dealt or collected as bits is read as what is dealt or
-- collected as registers. Nothing but the image of each entry: by induction on the lists.
use Rattle.std.specs.Prelude.{Result, ⊤, Ok, Err}
use mathlib.Core.Path.{◌≡◌, refl, sym, ap, ◌∙◌}
use mathlib.Core.Bool.{Bool, true, false, cond}
use mathlib.Core.List.{List, [], ◌∷◌, map}
use Prim.Native.Nat.{ℕ, suc, ◌*◌, ◌/◌, ◌%◌, ◌<◌}
use lib.ListN.{get_or, get_or-map}
use Rattle.answers.specs.declared.Refusal.{Refusal}
use Rattle.fragment.specs.Kinds.{at, place}
use Rattle.fragment.specs.Fragment.{is_place}
use Rattle.fragment.proofs.Back.{back}
use Rattle.values.specs.declared.Register.{Register}
use Rattle.values.specs.declared.Register.TheVariants.{Empty as NoValue}
use Rattle.values.specs.Rows.{each, entry, each_entry}
use Rattle.values.specs.Values.{is_own, in_tile, dealt_entry, dealt, collected_entry, collected}
use Rattle.values.proofs.Holder.{in_lanes, collected_back}
use Rattle.values.specs.Registers.{deal_answer, collect_answer, filled, dealt_lanes, collected_tile}
use Rattle.c_bits.specs.declared.Bits.{Bits}
use Rattle.c_bits.specs.declared.Bits.TheVariants.{Empty}
use Rattle.c_bits.specs.Bits.{register_at, rows_from, read_as, registers_held, dealt_bits, collected_bits}
use Rattle.c_bits.proofs.Given.{entry_at}

module _ {A B : Type 0} (f : A → B) where
  -- the image of what stands at a place
  pub image_at : (other : A) (rows : List (List A)) (row k : ℕ) → entry (f other) (map (map f) rows) row k ≡ f (entry other rows row k)
  image_at other rows row k =
      ap (λ (l : List B). get_or l k (f other)) (get_or-map (map f) rows row []) ∙ get_or-map f (get_or rows row []) k other

  image_each : (g : ℕ → A → A) (h : ℕ → B → B) → ((k : ℕ) (x : A) → f (g k x) ≡ h k (f x)) → (l : List A) → map f (each g l) ≡ each h (map f l)
  unfolding each
  image_each g h e [] = refl
  image_each g h e (x ∷ l) =
      ap (λ (y : B). y ∷ map f (each (λ k. g (suc k)) l)) (e 0 x) ∙ ap (λ (t : List B). h 0 (f x) ∷ t) (image_each (λ k. g (suc k)) (λ k. h (suc k)) (λ k. e (suc k)) l)

  -- the image of one of two
  image_cond : (b : Bool) (x y : A) → f (cond b x y) ≡ cond b (f x) (f y)
  image_cond true x y = refl
  image_cond false x y = refl

module _ {A B : Type 0} (f : A → B) (other : A) (kind c : ℕ) where
  image_dealt : (tile lanes : List (List A)) → map (map f) (dealt other kind c tile lanes) ≡ dealt (f other) kind c (map (map f) tile) (map (map f) lanes)
  image_dealt tile =
      image_each (map f) (λ lane. each (dealt_entry other kind c tile lane)) (λ lane. each (dealt_entry (f other) kind c (map (map f) tile) lane))
      (λ lane. image_each f (dealt_entry other kind c tile lane) (dealt_entry (f other) kind c (map (map f) tile) lane)
      (λ i x.
      image_cond f (is_own kind c lane i) (in_tile other tile (place kind lane i)) x
      ∙ ap (λ (y : B). cond (is_own kind c lane i) y (f x)) (sym (image_at f other tile (place kind lane i).row (place kind lane i).column))))

  image_collected : (lanes tile : List (List A))
      → map (map f) (collected other kind c lanes tile) ≡ collected (f other) kind c (map (map f) lanes) (map (map f) tile)
  image_collected lanes =
      image_each (map f) (λ row. each (collected_entry other kind c lanes row)) (λ row. each (collected_entry (f other) kind c (map (map f) lanes) row))
      (λ row. image_each f (collected_entry other kind c lanes row) (collected_entry (f other) kind c (map (map f) lanes) row)
      (λ column x.
      ap f (collected_back other kind c lanes row column x)
      ∙ image_cond f (is_place kind (at c row column)) (in_lanes other lanes (back kind (at c row column))) x
      ∙ ap (λ (y : B). cond (is_place kind (at c row column)) y (f x))
      (sym (image_at f other lanes (back kind (at c row column)).lane (back kind (at c row column)).register))
      ∙ sym (collected_back (f other) kind c (map (map f) lanes) row column (f x))))

-- entry j of the arrays, read
pub read_at : (rows : ℕ) (sorts singles doubles : List ℕ) (j : ℕ) → j < 8 * rows
    → entry NoValue (registers_held (rows_from rows sorts singles doubles)) (j / 8) (j % 8) ≡ read_as (register_at sorts singles doubles j)
read_at rows sorts singles doubles j h =
    image_at read_as Empty (rows_from rows sorts singles doubles) (j / 8) (j % 8) ∙ ap read_as (entry_at rows sorts singles doubles j h)

image_filled : {A B : Type 0} (f : A → B) (m : Result ⊤ Refusal) (new given : A) → f (filled m new given) ≡ filled m (f new) (f given)
image_filled f (Ok _) new given = refl
image_filled f (Err refusal) new given = refl

-- the questions over registers answer what those over bits do: what is filled, read
pub read_dealt : (kind c : ℕ) (tile lanes : List (List Bits)) → registers_held (dealt_bits kind c tile lanes) ≡ dealt_lanes kind c (registers_held tile) (registers_held lanes)
read_dealt kind c tile lanes =
    image_filled registers_held (deal_answer kind c (registers_held tile)) (dealt Empty kind c tile lanes) lanes
    ∙ ap (λ (x : List (List Register)). filled (deal_answer kind c (registers_held tile)) x (registers_held lanes)) (image_dealt read_as Empty kind c tile lanes)

pub read_collected : (kind c : ℕ) (lanes tile : List (List Bits))
    → registers_held (collected_bits kind c lanes tile) ≡ collected_tile kind c (registers_held lanes) (registers_held tile)
read_collected kind c lanes tile =
    image_filled registers_held (collect_answer kind c (registers_held lanes)) (collected Empty kind c lanes tile) tile
    ∙ ap (λ (x : List (List Register)). filled (collect_answer kind c (registers_held lanes)) x (registers_held tile)) (image_collected read_as Empty kind c lanes tile)
