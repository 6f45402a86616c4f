-- The bytes of a number say that number, and the number that eight bytes say has these bytes; so has an event of its content.
use Rattle.std.proofs.Common.{◌≡◌, ℕ, zero, suc, ◌+◌, ◌*◌, ◌/◌, ◌%◌, ◌^◌, ◌<◌, List, [], ◌∷◌, ◌++◌, length, get_or, drop, sym, ap, ◌∙◌, arith}
use Rattle.std.proofs.lemmas.List.{drop_more, drop_all}
use Rattle.fleet.specs.declared.Event.{Event}
use Rattle.sheet.specs.Laws.{Bytes}
use Rattle.journal.specs.Events.{low_first, number_in, content_of, event_of}

-- an event is the one that its content says
pub event_again : (e : Event) → e.number < 2 ^ 64 → event_of (content_of e) ≡ e
event_again e h =
    let same : number_in (content_of e) ≡ e.number = omega arith in
    ap (λ (n : ℕ). record { number = n; kind = e.kind; worker = e.worker; from = e.from; to = e.to }) same

-- eight bytes are those of the number that they say
low_first_sum : (a b c d e f g h : ℕ) → a < 256 → b < 256 → c < 256 → d < 256 → e < 256 → f < 256 → g < 256 → h < 256 →
    low_first (a + b * 256 + c * 65536 + d * 16777216 + e * 4294967296 + f * 1099511627776 + g * 281474976710656 + h * 72057594037927936)
    ≡ a ∷ b ∷ c ∷ d ∷ e ∷ f ∷ g ∷ h ∷ []
low_first_sum a b c d e f g h la lb lc ld le lf lg lh =
    let n = a + b * 256 + c * 65536 + d * 16777216 + e * 4294967296 + f * 1099511627776 + g * 281474976710656 + h * 72057594037927936 in
    let e0 : n % 256 ≡ a = omega arith in
    let q1 : n / 256 ≡ b + c * 256 + d * 65536 + e * 16777216 + f * 4294967296 + g * 1099511627776 + h * 281474976710656 = omega arith in
    let e1 : n / 256 % 256 ≡ b = rw q1 (omega arith) in
    let q2 : n / 65536 ≡ c + d * 256 + e * 65536 + f * 16777216 + g * 4294967296 + h * 1099511627776 = omega arith in
    let e2 : n / 65536 % 256 ≡ c = rw q2 (omega arith) in
    let q3 : n / 16777216 ≡ d + e * 256 + f * 65536 + g * 16777216 + h * 4294967296 = omega arith in
    let e3 : n / 16777216 % 256 ≡ d = rw q3 (omega arith) in
    let q4 : n / 4294967296 ≡ e + f * 256 + g * 65536 + h * 16777216 = omega arith in
    let e4 : n / 4294967296 % 256 ≡ e = rw q4 (omega arith) in
    let q5 : n / 1099511627776 ≡ f + g * 256 + h * 65536 = omega arith in
    let e5 : n / 1099511627776 % 256 ≡ f = rw q5 (omega arith) in
    let q6 : n / 281474976710656 ≡ g + h * 256 = omega arith in
    let e6 : n / 281474976710656 % 256 ≡ g = rw q6 (omega arith) in
    let q7 : n / 72057594037927936 ≡ h = omega arith in
    let e7 : n / 72057594037927936 % 256 ≡ h = rw q7 (omega arith) in
    rw (e0, e1, e2, e3, e4, e5, e6, e7)

-- so many elements from a place on
abbrev elements : ℕ → ℕ → List ℕ → List ℕ
elements zero at l = []
elements (suc k) at l = get_or l at 0 ∷ elements k (at + 1) l

elements_are : (k at : ℕ) (l : List ℕ) → length l ≡ at + k → drop at l ≡ elements k at l
elements_are zero at l h = drop_all at l (omega arith)
elements_are (suc k) at l h = drop_more l at 0 (omega arith) ∙ ap (λ r. get_or l at 0 ∷ r) (elements_are k (at + 1) l (omega arith))

-- twelve bytes are the content of the event that they say
pub content_again : (l : List ℕ) → length l ≡ 12 → Bytes l → content_of (event_of l) ≡ l
content_again l h small =
    let number = low_first_sum (get_or l 0 0) (get_or l 1 0) (get_or l 2 0) (get_or l 3 0) (get_or l 4 0) (get_or l 5 0) (get_or l 6 0) (get_or l 7 0) (small 0) (small 1) (small 2) (small 3) (small 4) (small 5) (small 6) (small 7) in
    ap (λ (n : List ℕ). n ++ (get_or l 8 0 ∷ get_or l 9 0 ∷ get_or l 10 0 ∷ get_or l 11 0 ∷ [])) number ∙ sym (elements_are 12 0 l h)
