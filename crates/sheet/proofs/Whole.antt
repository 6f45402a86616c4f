-- Reading a whole sheet, part after part: each part that is read leaves the rest to read, and its fault is the sheet's.
use Rattle.std.proofs.Common.{◌≡◌, ℕ, Bool, true, false, ltb, List, length, Some, None, Ok, Err, Result, sym, refl, ap, ◌∙◌, ap₂, arith}
use Rattle.sheet.specs.declared.faults.FieldFault.{FieldFault}
use Rattle.sheet.specs.declared.faults.SheetFault.{SheetFault}
use Rattle.sheet.specs.declared.faults.SheetFault.TheVariants as fault
use Rattle.sheet.specs.declared.fields.Due.TheVariants.{First, Last}
use Rattle.sheet.specs.declared.fields.Size.{Size}
use Rattle.sheet.specs.Framing.{place_after}
use Rattle.sheet.specs.Fields.{Field, field_due}
use Rattle.sheet.specs.Sheets.{SheetText}
use Rattle.sheet.specs.Reading.{Progress, and_then, made_of, no_size, no_text, size_of, size_due, quarantine_due, end_due, read_workers, read_tenants, read_end, with_quarantine, text_and_place, after_tenants, decode}

module _ (bytes : List ℕ) where
  -- what is left to read after the workers and after the counts

  abbrev with_tenants : Size → Result Progress SheetFault → Result SheetText SheetFault
  with_tenants size r = and_then r (λ d. after_tenants bytes size d.text d.place)

  abbrev pub after_workers : Size → Progress → Result SheetText SheetFault
  after_workers size d = with_tenants size (read_tenants size.tenants size bytes d)

  abbrev pub with_workers : Size → Result Progress SheetFault → Result SheetText SheetFault
  with_workers size r = and_then r (after_workers size)

  abbrev pub after_size : Size → Result SheetText SheetFault
  after_size size = with_workers size (read_workers size.workers size bytes (record { place = place_after bytes 0; lowest = 3; text = no_text }))

  -- a made field is there where the field is

  made_ok : {X : Type 0} (row : List ℕ → X) (x : X) (r : Result Field FieldFault) → made_of row r ≡ Ok x → (f : Field) × (r ≡ Ok f) × (row f.content ≡ x)
  made_ok row x (Ok f) e = (f, refl, cc)
  made_ok row x (Err g) e = absurd (let z : ◌≡◌ {A = ℕ} 0 1 = cc in omega arith)

  made_err : {X : Type 0} (row : List ℕ → X) (g : FieldFault) (r : Result Field FieldFault) → made_of row r ≡ Err g → r ≡ Err g
  made_err row g (Ok f) e = absurd (let z : ◌≡◌ {A = ℕ} 0 1 = cc in omega arith)
  made_err row g (Err h) e = cc

  pub size_read : (size : Size) → size_due bytes 0 ≡ Ok size → decode bytes ≡ after_size size
  size_read size e =
      let m = made_ok size_of size (field_due First no_size bytes 0) e in
      rw m.1 (ap after_size m.2)

  pub size_fault : (g : FieldFault) → size_due bytes 0 ≡ Err g → decode bytes ≡ Err (fault.Field g)
  size_fault g e = rw (made_err size_of g (field_due First no_size bytes 0) e) refl

  pub tenants_read_on : (size : Size) (d : Progress) (s : SheetText) (place : ℕ) → text_and_place (read_tenants size.tenants size bytes d) ≡ Ok (s, place) → after_workers size d ≡ after_tenants bytes size s place
  tenants_read_on size d s place e = go (read_tenants size.tenants size bytes d) e
    where
      go : (r : Result Progress SheetFault) → text_and_place r ≡ Ok (s, place) → with_tenants size r ≡ after_tenants bytes size s place
      go (Ok d) e =
          let same : ◌≡◌ {A = SheetText × ℕ} (d.text, d.place) (s, place) = cc in
          ap (λ (p : SheetText × ℕ). after_tenants bytes size p.0 p.1) same
      go (Err g) e = absurd (let z : ◌≡◌ {A = ℕ} 0 1 = cc in omega arith)

  pub quarantine_read : (size : Size) (s : SheetText) (place : ℕ) (q : List ℕ) → quarantine_due size bytes place ≡ Ok q → after_tenants bytes size s place ≡ read_end bytes (place_after bytes place) (with_quarantine s q)
  quarantine_read size s place q e =
      let m = made_ok (λ (l : List ℕ). l) q (field_due Last size bytes place) e in
      rw m.1 (ap (λ (l : List ℕ). read_end bytes (place_after bytes place) (with_quarantine s l)) m.2)

  pub quarantine_fault : (size : Size) (s : SheetText) (place : ℕ) (g : FieldFault) → quarantine_due size bytes place ≡ Err g → after_tenants bytes size s place ≡ Err (fault.Field g)
  quarantine_fault size s place g e = rw (made_err (λ (l : List ℕ). l) g (field_due Last size bytes place) e) refl

  pub end_read : (at : ℕ) (s : SheetText) → end_due bytes at ≡ None → read_end bytes at s ≡ Ok s
  end_read at s e = go (ltb at (length bytes)) refl
    where
      go : (b : Bool) → ltb at (length bytes) ≡ b → read_end bytes at s ≡ Ok s
      go true h = absurd (let z : ◌≡◌ {A = ℕ} 0 1 = cc (rw h at e) in omega arith)
      go false h = rw h refl

  pub end_fault : (at : ℕ) (s : SheetText) (g : FieldFault) → end_due bytes at ≡ Some g → read_end bytes at s ≡ Err (fault.Field g)
  end_fault at s g e = go (ltb at (length bytes)) refl
    where
      go : (b : Bool) → ltb at (length bytes) ≡ b → read_end bytes at s ≡ Err (fault.Field g)
      go true h = rw h (ap (λ (f : FieldFault). Err (fault.Field f)) (cc (rw h at e)))
      go false h = absurd (let z : ◌≡◌ {A = ℕ} 0 1 = cc (rw h at e) in omega arith)

  -- the counts, the workers and the tenants are read, by readers that stood at b0, b1 and b2 of the same bytes
  pub read_to_quarantine : (b0 b1 b2 : List ℕ) (p0 p1 : ℕ) (size : Size) (d : Progress) (s : SheetText) (place : ℕ) → b0 ≡ bytes → p0 ≡ 0 → Ok size ≡ size_due b0 p0 →
      b1 ≡ b0 → p1 ≡ place_after b0 p0 → Ok d ≡ read_workers size.workers size b1 (record { place = p1; lowest = 3; text = no_text }) →
      b2 ≡ b1 → Ok (s, place) ≡ text_and_place (read_tenants size.tenants size b2 d) → decode bytes ≡ after_tenants bytes size s place
  read_to_quarantine b0 b1 b2 p0 p1 size d s place i0 h0 e0 i1 h1 e1 i2 e2 =
      let start : p1 ≡ place_after bytes 0 = h1 ∙ ap₂ place_after i0 h0 in
      let crew : read_workers size.workers size bytes (record { place = place_after bytes 0; lowest = 3; text = no_text }) ≡ Ok d =
      sym (e1 ∙ ap₂ (λ (b : List ℕ) (p : ℕ). read_workers size.workers size b (record { place = p; lowest = 3; text = no_text })) (i1 ∙ i0) start) in
      let tenants : text_and_place (read_tenants size.tenants size bytes d) ≡ Ok (s, place) =
      sym (e2 ∙ ap (λ (b : List ℕ). text_and_place (read_tenants size.tenants size b d)) (i2 ∙ i1 ∙ i0)) in
      size_read size (sym (e0 ∙ ap₂ size_due i0 h0)) ∙ ap (with_workers size) crew ∙ tenants_read_on size d s place tenants

  -- all but the quarantine is read, and then that and the end, by readers that stood at b0, b1 and b2 of the same bytes
  module _ (b0 b1 : List ℕ) (size : Size) (s : SheetText) (place : ℕ) (i0 : b0 ≡ bytes) (people : decode b0 ≡ after_tenants b0 size s place) (i1 : b1 ≡ b0) where
    after_people : decode bytes ≡ after_tenants bytes size s place
    after_people = ap decode (sym i0) ∙ people ∙ ap (λ (b : List ℕ). after_tenants b size s place) i0

    quarantine_here : quarantine_due size bytes place ≡ quarantine_due size b1 place
    quarantine_here = ap (λ (b : List ℕ). quarantine_due size b place) (sym (i1 ∙ i0))

    pub stops_at_quarantine : (g : FieldFault) → Err g ≡ quarantine_due size b1 place → decode bytes ≡ Err (fault.Field g)
    stops_at_quarantine g e = after_people ∙ quarantine_fault size s place g (quarantine_here ∙ sym e)

    module _ (b2 : List ℕ) (q : List ℕ) (at : ℕ) (e : Ok q ≡ quarantine_due size b1 place) (h : at ≡ place_after b1 place) (i2 : b2 ≡ b1) where
      to_end : decode bytes ≡ read_end bytes at (with_quarantine s q)
      to_end =
          after_people ∙ quarantine_read size s place q (quarantine_here ∙ sym e)
          ∙ ap (λ (p : ℕ). read_end bytes p (with_quarantine s q)) (sym (h ∙ ap (λ (b : List ℕ). place_after b place) (i1 ∙ i0)))

      end_here : end_due bytes at ≡ end_due b2 at
      end_here = ap (λ (b : List ℕ). end_due b at) (sym (i2 ∙ i1 ∙ i0))

      pub stops_at_end : (g : FieldFault) → Some g ≡ end_due b2 at → decode bytes ≡ Err (fault.Field g)
      stops_at_end g e = to_end ∙ end_fault at (with_quarantine s q) g (end_here ∙ sym e)

      pub read_whole : None ≡ end_due b2 at → decode bytes ≡ Ok (with_quarantine s q)
      read_whole e = to_end ∙ end_read at (with_quarantine s q) (end_here ∙ sym e)
