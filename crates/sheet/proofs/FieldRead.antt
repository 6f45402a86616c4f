-- What is known of a field that was read where it was due.
use Rattle.std.proofs.Common.{◌≡◌, ℕ, ◌+◌, ◌<◌, Bool, true, false, eqb, List, ◌++◌, get_or, take, Some, None, Ok, Err, Option, Result, sym, refl, ap, ◌∙◌, subst, arith}
use Rattle.std.specs.List.{flat_map}
use Rattle.std.proofs.lemmas.List.{append-nil}
use Rattle.std.proofs.lemmas.Bool.Decides.{nat_tests}
use Rattle.sheet.specs.declared.faults.FieldFault.{FieldFault}
use Rattle.sheet.specs.declared.faults.FramingFault.{FramingFault}
use Rattle.sheet.specs.declared.fields.Due.{Due}
use Rattle.sheet.specs.declared.fields.Due.TheVariants.{First, NextWorker, NextTenant, Last}
use Rattle.sheet.specs.declared.fields.Kind.{Kind}
use Rattle.sheet.specs.declared.fields.Size.{Size}
use Rattle.sheet.specs.Framing.{Part, field_bytes, frame_at, fields_in, place_after, required}
use Rattle.sheet.specs.Fields.{Field, tag_of, only, kind_due, content_fault, unless, of_kind, cut_for, field_due}
use Rattle.sheet.specs.Sheets.{written}
use Rattle.sheet.proofs.Parts.{next_bytes}
use Rattle.sheet.proofs.Passing.{Passes, faultless_passes}

-- a field was read where it was due: its kind is due, its content passes, and its bytes are those that were passed over
pub record Came (due : Due) (s : Size) (bytes : List ℕ) (at : ℕ) (k : Kind) (content : List ℕ) : Type 0 where
  pub kind_is : kind_due due (tag_of k) ≡ Some k
  pub passing : Passes k s content
  pub bytes_are : take at bytes ++ written k content ≡ take (place_after bytes at) bytes

-- the kind that is due has the tag that was read
due_tag : (due : Due) (tag : ℕ) (k : Kind) → kind_due due tag ≡ Some k → tag_of k ≡ tag
due_tag First tag k h = grind (arith, nat_tests)
due_tag NextWorker tag k h = grind (arith, nat_tests)
due_tag (NextTenant lowest) tag k h = grind (arith, nat_tests)
due_tag Last tag k h = grind (arith, nat_tests)

pub read_came : (due : Due) (s : Size) (bytes : List ℕ) (at : ℕ) (f : Field) → get_or bytes (at + 1) 0 < 256 → field_due due s bytes at ≡ Ok f →
    Came due s bytes at f.kind f.content
read_came due s bytes at f low = cut (frame_at bytes at) refl
  where
    This : Type 0
    This = Came due s bytes at f.kind f.content

    whole : (p : Part) (k : Kind) → frame_at bytes at ≡ Ok (Some p) → kind_due due p.tag ≡ Some k →
        (o : Option FieldFault) → content_fault k s p ≡ o → unless o k p ≡ Ok f → This
    whole p k q e (Some x) c h = absurd (grind arith)
    whole p k q e None c h =
        let same : record { kind = k; at = p.at; content = p.content } ≡ f = cc in
        let tag = due_tag due p.tag k e in
        let own : written k p.content ≡ flat_map field_bytes (fields_in (frame_at bytes at)) = rw (q, tag) (sym (append-nil (field_bytes p))) in
        let bytes_are = ap (λ l. take at bytes ++ l) own ∙ next_bytes bytes at low in
        subst (λ (g : Field). Came due s bytes at g.kind g.content) same (record { kind_is = rw tag e; passing = faultless_passes k s p c; bytes_are = bytes_are })

    kind : (p : Part) → frame_at bytes at ≡ Ok (Some p) → (o : Option Kind) → kind_due due p.tag ≡ o → of_kind o s p ≡ Ok f → This
    kind p q None e h = absurd (grind arith)
    kind p q (Some k) e h = whole p k q e (content_fault k s p) refl h

    cut : (r : Result (Option Part) FramingFault) → frame_at bytes at ≡ r → cut_for due s (required at r) ≡ Ok f → This
    cut (Err x) q h = absurd (grind arith)
    cut (Ok None) q h = absurd (grind arith)
    cut (Ok (Some p)) q h = kind p q (kind_due due p.tag) refl h

-- where only one kind is due, it was read
pub came_only : (due : Due) (k : Kind) → ((tag : ℕ) → kind_due due tag ≡ only (eqb tag (tag_of k)) k) →
    (s : Size) (bytes : List ℕ) (at : ℕ) (f : Field) → get_or bytes (at + 1) 0 < 256 → field_due due s bytes at ≡ Ok f → Came due s bytes at k f.content
came_only due k one s bytes at f low h =
    let c = read_came due s bytes at f low h in
    subst (λ (j : Kind). Came due s bytes at j f.content) (same (eqb (tag_of f.kind) (tag_of k)) (sym (one (tag_of f.kind)) ∙ c.kind_is)) c
  where
    same : (b : Bool) → only b k ≡ Some f.kind → f.kind ≡ k
    same true e = cc
    same false e = cc
