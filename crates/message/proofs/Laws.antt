-- The theorems of the laws that src/lib.rt ties: what another crate may cite of these proofs.
-- Assumes nothing.
use mathlib.Core.Path.{refl}
use native.Mathlib.Omega.{arith}
use Rattle.base.specs.Choice.{choose}
use Rattle.base.specs.Lists.{zeros}
use Rattle.endian.specs.LittleEndian.{to_le_bytes}
use Rattle.message.specs.Message.{header, header_bytes}
use Rattle.message.specs.Laws.{DatagramLaw, HeaderLaw, HeaderInstance}
use Rattle.message.proofs.Datagrams.{says_initiation, says_response, says_cookie_reply, says_data, part_of_data, no_part_lem, turned_unknown, turned_length, turned_short}
use Rattle.message.proofs.Headers.{answer_good, answer_refused, bytes_untouched, bytes_size, reads_back, part_back, begins_with}

-- what a datagram of each type says, and which datagrams are turned away
pub datagram_law : DatagramLaw
datagram_law =
    record {
      initiation = says_initiation;
      response = says_response;
      cookie_reply = says_cookie_reply;
      transport_data = λ a b c d e f g h i j k l rest long. says_data e f g h i j k l rest a b c d long;
      part = λ a b c d e f g h i j k l rest long. part_of_data e f g h i j k l rest a b c d long;
      no_part = no_part_lem;
      unknown = turned_unknown;
      wrong = turned_length;
      short = turned_short;
    }

-- a written header reads back, and every accepted data message begins with one
pub header_law : HeaderLaw
header_law =
    record {
      good = answer_good;
      refused = answer_refused;
      untouched = bytes_untouched;
      size = bytes_size;
      reads = λ bytes rest receiver counter h r c long. reads_back bytes receiver counter rest h long r c;
      part = λ bytes rest receiver counter h long. part_back bytes receiver counter rest h long;
      begins = begins_with;
    }

-- a header that is written and reads back
pub header_instance : HeaderInstance
unfolding header_bytes header choose zeros to_le_bytes
header_instance =
    record {
      bytes = refl;
      reads = header_law.reads (zeros 16) (zeros 16) 9 258 refl (omega arith) (omega arith) (omega arith);
      part = part_of_data 2 1 0 0 0 0 0 0 (zeros 16) 9 0 0 0 (omega arith);
    }
