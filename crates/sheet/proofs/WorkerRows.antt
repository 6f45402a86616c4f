-- The rows of workers by number.
use Rattle.std.proofs.Common.{◌≡◌, ℕ, zero, suc, ◌<◌, ◌≤◌, List, [], ◌∷◌, map, length, get_or, refl, ap, ◌∙◌, ⊎_elim, arith}
use Rattle.std.proofs.lemmas.List.{length_push, get_or_append_left, get_or_push, length-map, get_or-map}
use Rattle.std.proofs.lemmas.Bool.{cases_lt}
use Rattle.fleet.specs.Market.{Market}
use Rattle.sheet.specs.Sheets.{WorkerRow, rows_of, worker_content}

module _ (m : Market) (classes : List ℕ) where
  abbrev row : ℕ → WorkerRow
  row w = record { class = get_or classes w 0; list = m.list w }

  pub rows_count : (n : ℕ) → length (rows_of m classes n) ≡ n
  rows_count zero = refl
  rows_count (suc n) = length_push (rows_of m classes n) (row n) ∙ omega (arith, rows_count n)

  row_at : (n w : ℕ) → w < n → get_or (rows_of m classes n) w (row w) ≡ row w
  row_at zero w h = absurd (omega arith)
  row_at (suc n) w h = ⊎_elim
      (λ (l : w < n). get_or_append_left (rows_of m classes n) (row n ∷ []) (row w) w (omega (arith, rows_count n)) ∙ row_at n w l)
      (λ (l : n ≤ w). let last : w ≡ n = omega arith in rw last (get_or_push (rows_of m classes n) (row n) (row n) n (rows_count n)))
      (cases_lt w n)

  -- the content of a worker's field is its class and then its list
  pub content_at : (n w : ℕ) → w < n → get_or (map worker_content (rows_of m classes n)) w [] ≡ get_or classes w 0 ∷ m.list w
  content_at n w h = get_or-map worker_content (rows_of m classes n) w (row w) [] (omega (arith, rows_count n)) ∙ ap worker_content (row_at n w h)

  pub contents_count : (n : ℕ) → length (map worker_content (rows_of m classes n)) ≡ n
  contents_count n = length-map (rows_of m classes n) worker_content ∙ rows_count n
