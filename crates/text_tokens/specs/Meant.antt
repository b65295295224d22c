-- What the code's tokens and readers stand for. Assumes nothing.
use Rattle.std.specs.Prelude.{ℕ, Bool, drop}
use Rattle.text_tokens.specs.declared.Class.{Class}
use Rattle.text_tokens.specs.declared.gaps.Gap as stored_gap
use Rattle.text_tokens.specs.declared.gaps.Gap.TheVariants as a_gap
use Rattle.text_tokens.specs.declared.Kind as stored_kind
use Rattle.text_tokens.specs.declared.Kind.TheVariants as a_kind
use Rattle.text_tokens.specs.declared.Reader.{Reader}
use Rattle.text_tokens.specs.declared.Token as stored_token
use Rattle.text_tokens.specs.Tokens.{Source, Ended, More, Mode, Between, Comment, Begins, Word, Sign, scan}

-- the tokens that a reader has yet to give
abbrev pub left : Reader → Source
left r = scan (Between r.fresh) r.at (drop r.at r.text.now)

abbrev pub pulled_as : ℕ → Bool → stored_kind.Kind → Source → Source
pulled_as at fresh (a_kind.Word w) rest = More (record { at = at; fresh = fresh; kind = Word w.now }) rest
pulled_as at fresh (a_kind.Sign s) rest = More (record { at = at; fresh = fresh; kind = Sign s }) rest
pulled_as at fresh a_kind.End rest = Ended at

-- the tokens of which this one was taken, and these are left
abbrev pub pulled : stored_token.Token → Source → Source
pulled t rest = pulled_as t.at t.fresh t.kind rest

abbrev pub mode_of : stored_gap.Gap → Mode
mode_of (a_gap.Blank f) = Between f
mode_of (a_gap.Comment f) = Comment f

-- a token begins at a byte of this class; in a comment none does
abbrev pub Begun : stored_gap.Gap → Class → Type 0
Begun (a_gap.Blank f) c = Begins c
Begun (a_gap.Comment f) c = ⊥
