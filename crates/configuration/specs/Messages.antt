-- What is said of a text that is refused. Assumes nothing.
use Rattle.std.specs.Prelude.{ℕ, Bool, cond, ◌&&◌, List, [], ◌∷◌, ◌++◌, length, drop, codes, decimal, nat_le, nat_lt}
use Rattle.std.specs.Char.{is_ascii_graphic}
use Rattle.std.specs.List.{list_all}
use Rattle.policy_clauses.specs.declared.Awaited as stored
use Rattle.policy_clauses.specs.declared.Awaited.TheVariants as awaited
use Rattle.text_tokens.specs.Tokens.{Kind, Word, Sign, Source, Ended, More, tokens}
use Rattle.text_tokens.specs.declared.Sign as stored_sign
use Rattle.text_tokens.specs.declared.Sign.TheVariants.{Open, Close, Equals, Comma}
use Rattle.text_tokens.specs.declared.Place.{Place}
use Rattle.configuration.specs.declared.Found as stored_found
use Rattle.configuration.specs.declared.Found.TheVariants as a_found
use Rattle.configuration.specs.declared.RefusalLine.{RefusalLine}
use Rattle.configuration.specs.declared.TextRefusal.{TextRefusal}

-- what is awaited, in words
abbrev pub awaited_text : stored.Awaited → List ℕ
awaited_text awaited.Item = codes "list, from or to"
awaited_text awaited.NewName = codes "a name that no list above has"
awaited_text awaited.Equals = codes "="
awaited_text awaited.Prefix = codes "a prefix, as 10.0.0.0/8"
awaited_text awaited.ListEnd = codes "the end of the list: it has 64 prefixes"
awaited_text awaited.Policy = codes "from or to: there are 64 lists"
awaited_text awaited.Peer = codes "the number of a peer that has no such policy above"
awaited_text awaited.Open = codes "{"
awaited_text awaited.Clause = codes "if on a new line, or }"
awaited_text awaited.Close = codes "}: there are 256 clauses"
awaited_text awaited.Test = codes "a test (any, range, passes, marked, longer, not)"
awaited_text awaited.InOrWithin = codes "in or within"
awaited_text awaited.ListName = codes "the name of a list above"
awaited_text awaited.Number = codes "a number of 32 bits"
awaited_text awaited.AndOrThen = codes "and or then"
awaited_text awaited.Then = codes "then: there are 16 parts"
awaited_text awaited.Action = codes "an action (take, leave, like, far, mark, unmark, front)"
awaited_text awaited.Times = codes "times"
awaited_text awaited.Count = codes "a number of at most 8"
awaited_text awaited.End = codes "the end of the text"

abbrev pub sign_bytes : stored_sign.Sign → List ℕ
sign_bytes Open = 123 ∷ []
sign_bytes Close = 125 ∷ []
sign_bytes Equals = 61 ∷ []
sign_bytes Comma = 44 ∷ []

abbrev pub spelling : Kind → List ℕ
spelling (Word w) = w
spelling (Sign s) = sign_bytes s

abbrev pub first_of : Source → List ℕ
first_of (Ended at) = []
first_of (More t rest) = spelling t.kind

-- the word or the sign at the offset
abbrev pub found_in : List ℕ → ℕ → List ℕ
found_in text at = first_of (tokens (drop at text))

-- all bytes can be seen: each is one of 33 to 126
abbrev pub are_visible : List ℕ → Bool
are_visible bs = list_all is_ascii_graphic bs

-- a word of more than 40 bytes, or with bytes that cannot be seen, is not shown
abbrev pub is_shown : List ℕ → Bool
is_shown w = nat_le (length w) 40 && are_visible w

abbrev pub quoted : List ℕ → List ℕ
quoted w = codes "'" ++ (w ++ codes "'")

-- a word or a sign as it is shown; behind the last one the text ends
abbrev pub word_text : List ℕ → List ℕ
word_text [] = codes "the text ends"
word_text (b ∷ bs) = cond (is_shown (b ∷ bs)) (quoted (b ∷ bs)) (codes "this word")

-- what stands at the offset: of a text that is too long no word is shown
abbrev pub place_text : List ℕ → ℕ → List ℕ
place_text text at = cond (nat_le 65536 at && nat_lt at (length text)) (codes "the text goes on") (word_text (found_in text at))

abbrev pub line_text : Place → List ℕ → List ℕ → List ℕ
line_text place found a =
    codes "line " ++ (decimal place.line ++ (codes ", column " ++ (decimal place.column ++ (codes ": " ++ (found ++ (codes ": awaited " ++ a))))))

-- a refusal as a line: the place, what stands there, and what is awaited
abbrev pub refusal_line : List ℕ → TextRefusal → List ℕ
refusal_line text r = line_text r.place (place_text text r.at) (awaited_text r.awaited)

-- the same of the code's lines
abbrev pub found_text : stored_found.Found → List ℕ
found_text (a_found.Word w) = quoted w.now
found_text a_found.Bytes = codes "this word"
found_text a_found.End = codes "the text ends"
found_text a_found.More = codes "the text goes on"

abbrev pub line_of : RefusalLine → List ℕ
line_of l = line_text l.place (found_text l.found) l.awaited.now
