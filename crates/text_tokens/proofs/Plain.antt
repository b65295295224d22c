-- Tokens without places, byte by byte. Assumes nothing.
use Rattle.std.proofs.Common.{◌≡◌, ℕ, ◌+◌, Bool, true, false, List, [], ◌∷◌, ◌++◌, sym, refl, ap, ◌∙◌, append_assoc, append-nil, arith}
use Rattle.std.specs.List.{AllByRecursion as All}
use Rattle.text_tokens.specs.Spacing.{unplaced}
use Rattle.text_tokens.specs.Tokens.{Source, Ended, More, Mode, Between, Comment, InWord, Kind, Word, Sign, after, class_of, ended, scan, tokens, whole}
use Rattle.text_tokens.specs.declared.Class.{Class}
use Rattle.text_tokens.specs.declared.Class.TheVariants.{Blank, LineEnd, Hash, Letter}
use Rattle.text_tokens.specs.declared.Class.TheVariants as a_class

-- the tokens of the bytes, all with the place 0
unfoldable pub plain : Mode → List ℕ → Source
plain m [] = ended m 0
plain m (b ∷ bs) = whole m 0 (class_of b) (plain (after m 0 b (class_of b)) bs)

abbrev pub token : Bool → Kind → Source → Source
token fresh k rest = More (record { at = 0; fresh = fresh; kind = k }) rest

-- a word that was begun at 0
abbrev at_0 : Mode → Mode
at_0 (Between f) = Between f
at_0 (Comment f) = Comment f
at_0 (InWord start f w) = InWord 0 f w

module _ (x y : Mode → Source) (alike : (m : Mode) → unplaced (x m) ≡ y (at_0 m)) where
  one : (m : Mode) (n b : ℕ) (c : Class) → unplaced (whole m n c (x (after m n b c))) ≡ whole (at_0 m) 0 c (y (after (at_0 m) 0 b c))
  unfolding unplaced
  one (Between f) n b Blank = alike (Between f)
  one (Between f) n b LineEnd = alike (Between true)
  one (Between f) n b Hash = alike (Comment f)
  one (Between f) n b (a_class.Sign g) = ap (token f (Sign g)) (alike (Between false))
  one (Between f) n b Letter = alike (InWord n f (b ∷ []))
  one (Comment f) n b Blank = alike (Comment f)
  one (Comment f) n b LineEnd = alike (Between true)
  one (Comment f) n b Hash = alike (Comment f)
  one (Comment f) n b (a_class.Sign g) = alike (Comment f)
  one (Comment f) n b Letter = alike (Comment f)
  one (InWord start f w) n b Blank = ap (token f (Word w)) (alike (Between false))
  one (InWord start f w) n b LineEnd = ap (token f (Word w)) (alike (Between true))
  one (InWord start f w) n b Hash = ap (token f (Word w)) (alike (Comment false))
  one (InWord start f w) n b (a_class.Sign g) = ap (λ r. token f (Word w) (token false (Sign g) r)) (alike (Between false))
  one (InWord start f w) n b Letter = alike (InWord start f (w ++ (b ∷ [])))

unplaced_scan : (bs : List ℕ) (m : Mode) (n : ℕ) → unplaced (scan m n bs) ≡ plain (at_0 m) bs
unfolding scan plain unplaced
unplaced_scan [] (Between f) n = refl
unplaced_scan [] (Comment f) n = refl
unplaced_scan [] (InWord start f w) n = refl
unplaced_scan (b ∷ bs) m n = one (λ m'. scan m' (n + 1) bs) (λ m'. plain m' bs) (λ m'. unplaced_scan bs m' (n + 1)) m n b (class_of b)

pub unplaced_tokens : (text : List ℕ) → unplaced (tokens text) ≡ plain (Between true) text
unplaced_tokens text = unplaced_scan text (Between true) 0

abbrev pub IsLetter : ℕ → Type 0
IsLetter b = class_of b ≡ Letter

-- a word goes no further than these bytes
abbrev pub Stops : List ℕ → Type 0
Stops [] = Unit {0}
Stops (b ∷ bs) = class_of b ≡ Letter → ⊥

-- a blank, the end of a line and a comma, whatever is behind them
pub blank_stops : Stops (32 ∷ [])
blank_stops = λ e. let z : ◌≡◌ {A = ℕ} 0 1 = cc in absurd (omega arith)

pub line_stops : Stops (10 ∷ [])
line_stops = λ e. let z : ◌≡◌ {A = ℕ} 0 1 = cc in absurd (omega arith)

pub comma_stops : Stops (44 ∷ [])
comma_stops = λ e. let z : ◌≡◌ {A = ℕ} 0 1 = cc in absurd (omega arith)

on_letter : (f : Bool) (w : List ℕ) (b : ℕ) (bs : List ℕ) → IsLetter b → plain (InWord 0 f w) (b ∷ bs) ≡ plain (InWord 0 f (w ++ (b ∷ []))) bs
unfolding plain
on_letter f w b bs e = ap (λ c. whole (InWord 0 f w) 0 c (plain (after (InWord 0 f w) 0 b c) bs)) e

goes_on : (f : Bool) (w bs rest : List ℕ) → All IsLetter bs → plain (InWord 0 f w) (bs ++ rest) ≡ plain (InWord 0 f (w ++ bs)) rest
goes_on f w [] rest h = ap (λ v. plain (InWord 0 f v) rest) (sym (append-nil w))
goes_on f w (b ∷ bs) rest h =
    on_letter f w b (bs ++ rest) h.0 ∙ goes_on f (w ++ (b ∷ [])) bs rest h.1 ∙ ap (λ v. plain (InWord 0 f v) rest) (append_assoc w (b ∷ []) bs)

stop : (f : Bool) (w : List ℕ) (b : ℕ) (c : Class) (rest : Mode → Source) → (c ≡ Letter → ⊥) → whole (InWord 0 f w) 0 c (rest (after (InWord 0 f w) 0 b c)) ≡ token f (Word w) (whole (Between false) 0 c (rest (after (Between false) 0 b c)))
stop f w b Blank rest h = refl
stop f w b LineEnd rest h = refl
stop f w b Hash rest h = refl
stop f w b (a_class.Sign x) rest h = refl
stop f w b Letter rest h = absurd (h refl)

stops : (f : Bool) (w rest : List ℕ) → Stops rest → plain (InWord 0 f w) rest ≡ token f (Word w) (plain (Between false) rest)
unfolding plain
stops f w [] h = refl
stops f w (b ∷ bs) h = stop f w b (class_of b) (λ m. plain m bs) h

-- a word and what is behind it
pub word_behind : (f : Bool) (b : ℕ) (bs rest : List ℕ) → All IsLetter (b ∷ bs) → Stops rest → plain (Between f) ((b ∷ bs) ++ rest) ≡ token f (Word (b ∷ bs)) (plain (Between false) rest)
unfolding plain
word_behind f b bs rest h s =
    ap (λ c. whole (Between f) 0 c (plain (after (Between f) 0 b c) (bs ++ rest))) h.0 ∙ goes_on f (b ∷ []) bs rest h.1 ∙ stops f (b ∷ bs) rest s

-- the first token is the first on its line
abbrev pub is_fresh : Source → Bool
is_fresh (Ended at) = true
is_fresh (More t rest) = t.fresh

module _ (f : Mode → Source) (fresh : is_fresh (f (Between true)) ≡ true) (in_comment : is_fresh (f (Comment true)) ≡ true) (in-word : (w : List ℕ) → is_fresh (f (InWord 0 true w)) ≡ true) where
  between_fresh : (b : ℕ) (c : Class) → is_fresh (whole (Between true) 0 c (f (after (Between true) 0 b c))) ≡ true
  between_fresh b Blank = fresh
  between_fresh b LineEnd = fresh
  between_fresh b Hash = in_comment
  between_fresh b (a_class.Sign g) = refl
  between_fresh b Letter = in-word (b ∷ [])

  comment_fresh : (b : ℕ) (c : Class) → is_fresh (whole (Comment true) 0 c (f (after (Comment true) 0 b c))) ≡ true
  comment_fresh b Blank = in_comment
  comment_fresh b LineEnd = fresh
  comment_fresh b Hash = in_comment
  comment_fresh b (a_class.Sign g) = in_comment
  comment_fresh b Letter = in_comment

  word_fresh : (w : List ℕ) (b : ℕ) (c : Class) → is_fresh (whole (InWord 0 true w) 0 c (f (after (InWord 0 true w) 0 b c))) ≡ true
  word_fresh w b Blank = refl
  word_fresh w b LineEnd = refl
  word_fresh w b Hash = refl
  word_fresh w b (a_class.Sign g) = refl
  word_fresh w b Letter = in-word (w ++ (b ∷ []))

all_fresh : (bs : List ℕ) → (is_fresh (plain (Between true) bs) ≡ true) × (is_fresh (plain (Comment true) bs) ≡ true) × ((w : List ℕ) → is_fresh (plain (InWord 0 true w) bs) ≡ true)
unfolding plain
all_fresh [] = (refl, refl, λ w. refl)
all_fresh (b ∷ bs) =
    let rest = all_fresh bs in
    let f : Mode → Source = λ m. plain m bs in
    (between_fresh f rest.0 rest.1 rest.2 b (class_of b), comment_fresh f rest.0 rest.1 rest.2 b (class_of b), λ w. word_fresh f rest.0 rest.1 rest.2 w b (class_of b))

-- at the start of a line
pub first_fresh : (bs : List ℕ) → is_fresh (plain (Between true) bs) ≡ true
first_fresh bs = (all_fresh bs).0
