-- Boxes that are drawn one behind the other.
use Rattle.std.proofs.Common.{◌≡◌, ℕ, ◌+◌, ◌-◌, ◌*◌, List, [], ◌++◌, take, drop, length, refl, sym, ap, ◌∙◌, add-one, arith}
use Rattle.std.proofs.Math.Seq.{take-length}
use Rattle.std.proofs.lemmas.List.{append-nil, append_assoc, drop-drop, drop_min, length-drop, take_min}
use Rattle.std.specs.Prelude.{min}
use Rattle.view_timeline.specs.Strips.{strip_at}
use Rattle.view_timeline.specs.declared.cells.Cell.{Cell}
use Rattle.view_timeline.specs.declared.strips.TheConstants.{STRIP}
use Rattle.view_timeline.specs.run_marks.Lists.{below}
use Rattle.view_picture.specs.Boxes.{strip_boxes, with_boxes}
use Rattle.text_markup.specs.Draft.{Draft}
use Rattle.text_markup.specs.declared.names.Share.{Share}

-- no box
pub with-none : (draft : Draft) → with_boxes [] draft ≡ draft
with-none draft = ap (λ boxes. record draft { shares = boxes }) (append-nil draft.shares)

-- boxes, and others behind them
pub with-both : (one two : List Share) (draft : Draft) → with_boxes two (with_boxes one draft) ≡ with_boxes (one ++ two) draft
with-both one two draft = ap (λ boxes. record draft { shares = boxes }) (append_assoc draft.shares one two)

-- what there is of a number more
below-more : {X : Type 0} (f : ℕ → List X) (n : ℕ) → below f (n + 1) ≡ below f n ++ f n
unfolding below
below-more f n = rw add-one refl

-- boxes, and behind them those of each number below another
pub lanes-begin : (boxes : List Share) (f : ℕ → List Share) (one two : Draft) → two ≡ with_boxes boxes one → two ≡ with_boxes (boxes ++ below f 0) one
unfolding below
lanes-begin boxes f one two is = is ∙ ap (λ all. with_boxes all one) (sym (append-nil boxes))

pub lanes-more : (boxes : List Share) (f : ℕ → List Share) (n : ℕ) (one mid two : Draft) → mid ≡ with_boxes (boxes ++ below f n) one → two ≡ with_boxes (f n) mid
    → two ≡ with_boxes (boxes ++ below f (n + 1)) one
lanes-more boxes f n one mid two was is =
    is ∙ ap (λ draft. with_boxes (f n) draft) was ∙ with-both (boxes ++ below f n) (f n) one
    ∙ ap (λ all. with_boxes all one) (append_assoc boxes (below f n) (f n) ∙ ap (λ all. boxes ++ all) (sym (below-more f n)))

-- ---- strips
pub strips-begin : (f : ℕ → List Share) (one : Draft) → one ≡ with_boxes (below f 0) one
unfolding below
strips-begin f one = sym (with-none one)

-- what is behind a place is the whole rest
all-behind : (at : ℕ) (rest : List Cell) → take (length rest - at) (drop at rest) ≡ drop at rest
all-behind at rest = ap (λ n. take n (drop at rest)) (sym (length-drop at rest)) ∙ take-length (drop at rest)

times-next : (n k : ℕ) → n * k + k ≡ (n + 1) * k
times-next n k = grind arith

-- the cells of the next strip are taken, and those behind it are left
pub strips-more : (cpus : ℕ) (cells rest here : List Cell) (n at count : ℕ) (one mid two : Draft)
    → (mid ≡ with_boxes (below (λ number. strip_boxes cpus (strip_at number cells)) n) one) × (rest ≡ drop (n * STRIP) cells)
    → at ≡ min STRIP (length rest) → here ≡ take at rest → count ≡ cpus → two ≡ with_boxes (strip_boxes count here) mid
    → (two ≡ with_boxes (below (λ number. strip_boxes cpus (strip_at number cells)) (n + 1)) one) × (take (length rest - at) (drop at rest) ≡ drop ((n + 1) * STRIP) cells)
strips-more cpus cells rest here n at count one mid two was size taken same is =
    let f : ℕ → List Share = λ number. strip_boxes cpus (strip_at number cells) in
    let strip : here ≡ strip_at n cells = taken ∙ ap (λ k. take k rest) size ∙ take_min STRIP rest ∙ ap (λ all. take STRIP all) was.1 in
    let drawn : two ≡ with_boxes (f n) mid = is ∙ ap (λ c. with_boxes (strip_boxes c here) mid) same ∙ ap (λ h. with_boxes (strip_boxes cpus h) mid) strip in (
      lanes-more [] f n one mid two was.0 drawn,
      all-behind at rest ∙ ap (λ k. drop k rest) size ∙ drop_min STRIP rest ∙ ap (λ all. drop STRIP all) was.1 ∙ drop-drop STRIP (n * STRIP) cells ∙ ap (λ k. drop k cells) (times-next n STRIP),
    )
