-- Headers that are apart from the contents, and what they are joined to.
use Rattle.std.specs.Prelude.{◌≡◌, ℕ, ◌+◌, ◌^◌, ◌<◌, ◌≤◌, List, [], ◌∷◌, ◌++◌, length, take, drop, slice_get, Option, Some, None}
use Rattle.yasna_base.specs.declared.mode.BERMode.{BERMode}
use Rattle.yasna_base.specs.declared.tag.Tag.{Tag}
use Rattle.yasna_base.specs.declared.tag.PCBit.TheVariants.{Constructed}
use Rattle.yasna_base.specs.Canonical.{canonical_element}
use Rattle.yasna_writer.specs.declared.buffer.OpenElement.{OpenElement}
use Rattle.yasna_writer.specs.declared.buffer.Slot.{Slot}
use Rattle.yasna_writer.specs.declared.buffer.SlotState.{SlotState}
use Rattle.yasna_writer.specs.declared.buffer.SlotState.TheVariants.{Waits, Definite, Indefinite, Elsewhere}
use Rattle.yasna_writer.specs.declared.header.PartsHeader.{PartsHeader}
use Rattle.yasna_writer.specs.Header.{header_bytes, indefinite_header, parts_header}

-- the header that is in a list
abbrev pub listed_header : Option PartsHeader → List ℕ
listed_header None = []
listed_header (Some h) = parts_header h

-- the header of a slot's state, where those that are too large for a slot are in a list; an open element has none yet
abbrev pub header_of_state : List PartsHeader → SlotState → List ℕ
header_of_state ls (Waits d b) = []
header_of_state ls (Definite c n l) = header_bytes Constructed (record { tag = record { tag_class = c; tag_number = n }; length = l })
header_of_state ls (Indefinite c n) = indefinite_header (record { tag_class = c; tag_number = n })
header_of_state ls (Elsewhere i) = listed_header (slice_get ls i)

-- the header of a slot's state is in a list of this length, if it is in one
abbrev pub FindsHeader : ℕ → SlotState → Type 0
FindsHeader n (Waits d b) = Unit {0}
FindsHeader n (Definite c m l) = Unit {0}
FindsHeader n (Indefinite c m) = Unit {0}
FindsHeader n (Elsewhere i) = i < n

-- the number of open elements of a slot's state: one or none
abbrev pub state_waits : SlotState → ℕ
state_waits (Waits d b) = 1
state_waits (Definite c n l) = 0
state_waits (Indefinite c n) = 0
state_waits (Elsewhere i) = 0

-- it is the state of a slot with a header
pub record StatesHeader (h : PartsHeader) (ls : List PartsHeader) (m : SlotState) : Type 0 where
  pub header : header_of_state ls m ≡ parts_header h
  pub listed : FindsHeader (length ls) m
  pub ended : state_waits m ≡ 0

-- a header put into the bytes at a place
abbrev pub with_header : ℕ → List ℕ → List ℕ → List ℕ
with_header place h b = take place b ++ (h ++ drop place b)

-- the contents with each header at its place
abbrev pub joined : List PartsHeader → List Slot → List ℕ → List ℕ
joined ls [] c = c
joined ls (e ∷ es) c = with_header e.place (header_of_state ls e.state) (joined ls es c)

-- places that don't fall, from k on and up to n
abbrev pub AreInOrder : ℕ → List Slot → ℕ → Type 0
AreInOrder k [] n = k ≤ n
AreInOrder k (e ∷ es) n = (k ≤ e.place) × AreInOrder e.place es n

-- each header that is in a list of so many
abbrev pub FindHeaders : ℕ → List Slot → Type 0
FindHeaders n [] = Unit {0}
FindHeaders n (e ∷ es) = FindsHeader n e.state × FindHeaders n es

-- the count of bytes of the headers
abbrev pub headers_length : List PartsHeader → List Slot → ℕ
headers_length ls [] = 0
headers_length ls (e ∷ es) = length (header_of_state ls e.state) + headers_length ls es

-- how many elements are open
abbrev pub waits_of : List Slot → ℕ
waits_of [] = 0
waits_of (e ∷ es) = state_waits e.state + waits_of es

-- an element that is open knows how many bytes of headers are before it, and how many such elements there are up to it
abbrev pub KnowsPlace : ℕ → ℕ → SlotState → Type 0
KnowsPlace headers waits (Waits d b) = (d ≡ waits + 1) × (b ≡ headers)
KnowsPlace headers waits (Definite c n l) = Unit {0}
KnowsPlace headers waits (Indefinite c n) = Unit {0}
KnowsPlace headers waits (Elsewhere i) = Unit {0}

-- each element knows its place
abbrev pub KnowPlaces : List PartsHeader → ℕ → ℕ → List Slot → Type 0
KnowPlaces ls headers waits [] = Unit {0}
KnowPlaces ls headers waits (e ∷ es) = KnowsPlace headers waits e.state
    × KnowPlaces ls (headers + length (header_of_state ls e.state)) (waits + state_waits e.state) es

-- slots over n bytes of contents, counted
pub record AreSlots (ls : List PartsHeader) (es : List Slot) (n headers waits : ℕ) : Type 0 where
  pub ordered : AreInOrder 0 es n
  pub listed : FindHeaders (length ls) es
  pub counted : headers ≡ headers_length ls es
  pub waiting : waits ≡ waits_of es
  pub placed : KnowPlaces ls 0 0 es
  pub few : headers < 2 ^ 63

-- at a place the element waits that began there, with no other after it
pub record IsInnermost (es : List Slot) (waits : ℕ) (b : OpenElement) (place : ℕ) : Type 0 where
  pub headers : ℕ
  pub there : drop b.slot es ≡ (record { place = place; state = Waits waits headers }) ∷ drop (b.slot + 1) es
  pub start : b.start ≡ place + headers

-- the bytes with those from n on made an element
abbrev pub with_element : BERMode → Tag → ℕ → List ℕ → List ℕ
with_element m t n b = take n b ++ canonical_element m t Constructed (drop n b)
