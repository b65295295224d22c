-- A text as a row of tokens with their places. Assumes nothing.
use Rattle.std.specs.Prelude.{◌≡◌, ℕ, ◌+◌, ◌<◌, ◌≤◌, Bool, true, false, cond, ◌||◌, List, [], ◌∷◌, ◌++◌, length, ◌==◌, ◌≢◌, slice_index}
use Rattle.text_tokens.specs.declared.Class as stored
use Rattle.text_tokens.specs.declared.Class.TheVariants.{Blank, LineEnd, Hash, Letter}
use Rattle.text_tokens.specs.declared.Class.TheVariants as a_class
use Rattle.text_tokens.specs.declared.Sign as a_sign
use Rattle.text_tokens.specs.declared.Sign.TheVariants.{Open, Close, Equals, Comma}

-- what each byte is: blank, tab and carriage return separate; a line ends at 10; `#` begins a comment; `{`, `}`, `=` and `,` are signs; all others stand in words
abbrev pub class_of : ℕ → stored.Class
class_of b =
    cond (b == 32 || (b == 9 || b == 13)) Blank
    (cond (b == 10) LineEnd
    (cond (b == 35) Hash
    (cond (b == 123) (a_class.Sign Open)
    (cond (b == 125) (a_class.Sign Close)
    (cond (b == 61) (a_class.Sign Equals)
    (cond (b == 44) (a_class.Sign Comma) Letter))))))

pub data Kind : Type 0 where
  Word : List ℕ → Kind
  Sign : a_sign.Sign → Kind

-- a token, the offset of its first byte, and whether it is the first one on its line
pub record Token : Type 0 where
  pub at : ℕ
  pub fresh : Bool
  pub kind : Kind

-- the tokens of a text, and then its end
pub data Source : Type 0 where
  Ended : (at : ℕ) → Source
  More : Token → Source → Source

-- what the bytes before have begun: nothing, a comment, or a word with its offset and its bytes so far; with whether no token stands on the line yet
pub data Mode : Type 0 where
  Between : (fresh : Bool) → Mode
  Comment : (fresh : Bool) → Mode
  InWord : (start : ℕ) (fresh : Bool) (bytes : List ℕ) → Mode

-- the mode behind a byte that does not go on with a comment or a word
abbrev pub begun : Bool → ℕ → ℕ → stored.Class → Mode
begun fresh n b Blank = Between fresh
begun fresh n b LineEnd = Between true
begun fresh n b Hash = Comment fresh
begun fresh n b (a_class.Sign s) = Between false
begun fresh n b Letter = InWord n fresh (b ∷ [])

-- a sign is a token at once
abbrev pub signed : Bool → ℕ → stored.Class → Source → Source
signed fresh n Blank rest = rest
signed fresh n LineEnd rest = rest
signed fresh n Hash rest = rest
signed fresh n (a_class.Sign s) rest = More (record { at = n; fresh = fresh; kind = Sign s }) rest
signed fresh n Letter rest = rest

abbrev pub worded : ℕ → Bool → List ℕ → Source → Source
worded start fresh bytes rest = More (record { at = start; fresh = fresh; kind = Word bytes }) rest

-- the mode behind the byte b at n
abbrev pub after : Mode → ℕ → ℕ → stored.Class → Mode
after (Between fresh) n b c = begun fresh n b c
after (Comment fresh) n b Blank = Comment fresh
after (Comment fresh) n b LineEnd = Between true
after (Comment fresh) n b Hash = Comment fresh
after (Comment fresh) n b (a_class.Sign s) = Comment fresh
after (Comment fresh) n b Letter = Comment fresh
after (InWord start fresh bytes) n b Blank = Between false
after (InWord start fresh bytes) n b LineEnd = Between true
after (InWord start fresh bytes) n b Hash = Comment false
after (InWord start fresh bytes) n b (a_class.Sign s) = Between false
after (InWord start fresh bytes) n b Letter = InWord start fresh (bytes ++ (b ∷ []))

-- the tokens that are whole once the byte at n is read, before those of the rest
abbrev pub whole : Mode → ℕ → stored.Class → Source → Source
whole (Between fresh) n c rest = signed fresh n c rest
whole (Comment fresh) n c rest = rest
whole (InWord start fresh bytes) n Blank rest = worded start fresh bytes rest
whole (InWord start fresh bytes) n LineEnd rest = worded start fresh bytes rest
whole (InWord start fresh bytes) n Hash rest = worded start fresh bytes rest
whole (InWord start fresh bytes) n (a_class.Sign s) rest = worded start fresh bytes (signed false n (a_class.Sign s) rest)
whole (InWord start fresh bytes) n Letter rest = rest

-- at the end a word that was begun is whole
abbrev pub ended : Mode → ℕ → Source
ended (Between fresh) n = Ended n
ended (Comment fresh) n = Ended n
ended (InWord start fresh bytes) n = worded start fresh bytes (Ended n)

-- the tokens of bytes that begin at offset n
unfoldable pub scan : Mode → ℕ → List ℕ → Source
scan mode n [] = ended mode n
scan mode n (b ∷ bs) = whole mode n (class_of b) (scan (after mode n b (class_of b)) (n + 1) bs)

-- the tokens of a text
abbrev pub tokens : List ℕ → Source
tokens text = scan (Between true) 0 text

-- a byte at which a token begins
abbrev pub Begins : stored.Class → Type 0
Begins Blank = ⊥
Begins LineEnd = ⊥
Begins Hash = ⊥
Begins (a_class.Sign s) = Unit {0}
Begins Letter = Unit {0}

-- a byte that can stand in a word
abbrev pub is_letter_class : stored.Class → Bool
is_letter_class Blank = false
is_letter_class LineEnd = false
is_letter_class Hash = false
is_letter_class (a_class.Sign s) = false
is_letter_class Letter = true

abbrev pub is_letter : ℕ → Bool
is_letter b = is_letter_class (class_of b)

-- the bytes from start up to end are those of a word, and the word goes no further
pub record Run (text : List ℕ) (start end : ℕ) : Type 0 where
  pub some : start < end
  pub within : end ≤ length text
  pub all : (k : ℕ) → start ≤ k → k < end → class_of (slice_index text k) ≡ Letter
  pub stops : end < length text → class_of (slice_index text end) ≢ Letter
