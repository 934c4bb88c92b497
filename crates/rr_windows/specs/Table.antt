-- Windows' names of zones beside those of tzdata, from windowsZones.xml of the Unicode CLDR.
use Rattle.std.specs.Prelude.{ℕ, List, codes}

-- a line for each name of Windows: a colon, then the names of tzdata; bench/windows.py writes it
unfoldable pub table : List ℕ
table = codes "Dateline Standard Time:Etc/GMT+12\nUTC-11:Etc/GMT+11 Pacific/Pago_Pago Pacific/Samoa US/Samoa Pacific/Niue Pacific/Midway\nAleutian Standard Time:America/Adak America/Atka US/Aleutian\nHawaiian Standard Time:Pacific/Honolulu US/Hawaii Pacific/Rarotonga Pacific/Tahiti Pacific/Johnston Etc/GMT+10 HST\nMarquesas Standard Time:Pacific/Marquesas\nAlaskan Standard Time:America/Anchorage US/Alaska America/Juneau America/Metlakatla America/Nome America/Sitka America/Yakutat\nUTC-09:Etc/GMT+9 Pacific/Gambier\nPacific Standard Time (Mexico):America/Tijuana America/Ensenada Mexico/BajaNorte America/Santa_Isabel\nUTC-08:Etc/GMT+8 Pacific/Pitcairn\nPacific Standard Time:America/Los_Angeles US/Pacific US/Pacific-New America/Vancouver Canada/Pacific PST8PDT\nUS Mountain Standard Time:America/Phoenix US/Arizona America/Creston America/Dawson_Creek America/Fort_Nelson America/Hermosillo Etc/GMT+7 MST\nMountain Standard Time (Mexico):America/Chihuahua America/Mazatlan Mexico/BajaSur\nMountain Standard Time:America/Denver America/Shiprock Navajo US/Mountain America/Edmonton Canada/Mountain America/Cambridge_Bay America/Inuvik America/Yellowknife America/Ojinaga America/Boise MST7MDT\nYukon Standard Time:America/Whitehorse Canada/Yukon America/Dawson\nCentral America Standard Time:America/Guatemala America/Belize America/Costa_Rica Pacific/Galapagos America/Tegucigalpa America/Managua America/El_Salvador Etc/GMT+6\nCentral Standard Time:America/Chicago US/Central America/Winnipeg Canada/Central America/Rainy_River America/Rankin_Inlet America/Resolute America/Matamoros America/Indiana/Knox America/Knox_IN US/Indiana-Starke America/Indiana/Tell_City America/Menominee America/North_Dakota/Beulah America/North_Dakota/Center America/North_Dakota/New_Salem CST6CDT\nEaster Island Standard Time:Pacific/Easter Chile/EasterIsland\nCentral Standard Time (Mexico):America/Mexico_City Mexico/General America/Bahia_Banderas America/Merida America/Monterrey\nCanada Central Standard Time:America/Regina Canada/East-Saskatchewan Canada/Saskatchewan America/Swift_Current\nSA Pacific Standard Time:America/Bogota America/Rio_Branco America/Porto_Acre Brazil/Acre America/Eirunepe America/Coral_Harbour America/Atikokan America/Guayaquil America/Jamaica Jamaica America/Cayman America/Panama America/Lima Etc/GMT+5 EST\nEastern Standard Time (Mexico):America/Cancun\nEastern Standard Time:America/New_York US/Eastern America/Nassau America/Toronto Canada/Eastern America/Iqaluit America/Montreal America/Nipigon America/Pangnirtung America/Thunder_Bay America/Detroit US/Michigan America/Indiana/Petersburg America/Indiana/Vincennes America/Indiana/Winamac America/Kentucky/Monticello America/Louisville America/Kentucky/Louisville EST5EDT\nHaiti Standard Time:America/Port-au-Prince\nCuba Standard Time:America/Havana Cuba\nUS Eastern Standard Time:America/Indianapolis America/Fort_Wayne America/Indiana/Indianapolis US/East-Indiana America/Indiana/Marengo America/Indiana/Vevay\nTurks And Caicos Standard Time:America/Grand_Turk\nParaguay Standard Time:America/Asuncion\nAtlantic Standard Time:America/Halifax Canada/Atlantic Atlantic/Bermuda America/Glace_Bay America/Goose_Bay America/Moncton America/Thule\nVenezuela Standard Time:America/Caracas\nCentral Brazilian Standard Time:America/Cuiaba America/Campo_Grande\nSA Western Standard Time:America/La_Paz America/Antigua America/Anguilla America/Aruba America/Barbados America/St_Barthelemy America/Kralendijk America/Manaus Brazil/West America/Boa_Vista America/Porto_Velho America/Blanc-Sablon America/Curacao America/Dominica America/Santo_Domingo America/Grenada America/Guadeloupe America/Guyana America/St_Kitts America/St_Lucia America/Marigot America/Martinique America/Montserrat America/Puerto_Rico America/Lower_Princes America/Port_of_Spain America/St_Vincent America/Tortola America/St_Thomas America/Virgin Etc/GMT+4\nPacific SA Standard Time:America/Santiago Chile/Continental\nNewfoundland Standard Time:America/St_Johns Canada/Newfoundland\nTocantins Standard Time:America/Araguaina\nE. South America Standard Time:America/Sao_Paulo Brazil/East\nSA Eastern Standard Time:America/Cayenne Antarctica/Rothera Antarctica/Palmer America/Fortaleza America/Belem America/Maceio America/Recife America/Santarem Atlantic/Stanley America/Paramaribo Etc/GMT+3\nArgentina Standard Time:America/Buenos_Aires America/Argentina/Buenos_Aires America/Argentina/La_Rioja America/Argentina/Rio_Gallegos America/Argentina/Salta America/Argentina/San_Juan America/Argentina/San_Luis America/Argentina/Tucuman America/Argentina/Ushuaia America/Catamarca America/Argentina/Catamarca America/Argentina/ComodRivadavia America/Cordoba America/Argentina/Cordoba America/Rosario America/Jujuy America/Argentina/Jujuy America/Mendoza America/Argentina/Mendoza\nGreenland Standard Time:America/Godthab America/Nuuk\nMontevideo Standard Time:America/Montevideo\nMagallanes Standard Time:America/Punta_Arenas\nSaint Pierre Standard Time:America/Miquelon\nBahia Standard Time:America/Bahia\nUTC-02:Etc/GMT+2 America/Noronha Brazil/DeNoronha Atlantic/South_Georgia\nAzores Standard Time:Atlantic/Azores America/Scoresbysund\nCape Verde Standard Time:Atlantic/Cape_Verde Etc/GMT+1\nUTC:Etc/UTC Etc/UCT Etc/Universal Etc/Zulu UCT Universal Zulu Etc/GMT Etc/GMT+0 Etc/GMT-0 Etc/GMT0 Etc/Greenwich GMT GMT+0 GMT-0 GMT0 Greenwich\nGMT Standard Time:Europe/London Europe/Belfast GB GB-Eire Atlantic/Canary Atlantic/Faeroe Atlantic/Faroe Europe/Guernsey Europe/Dublin Eire Europe/Isle_of_Man Europe/Jersey Europe/Lisbon Portugal Atlantic/Madeira\nGreenwich Standard Time:Atlantic/Reykjavik Iceland Africa/Ouagadougou Africa/Abidjan Africa/Accra America/Danmarkshavn Africa/Banjul Africa/Conakry Africa/Bissau Africa/Monrovia Africa/Bamako Africa/Timbuktu Africa/Nouakchott Atlantic/St_Helena Africa/Freetown Africa/Dakar Africa/Lome\nSao Tome Standard Time:Africa/Sao_Tome\nMorocco Standard Time:Africa/Casablanca Africa/El_Aaiun\nW. Europe Standard Time:Europe/Berlin Europe/Andorra Europe/Vienna Europe/Zurich Europe/Busingen Europe/Gibraltar Europe/Rome Europe/Vaduz Europe/Luxembourg Europe/Monaco Europe/Malta Europe/Amsterdam Europe/Oslo Europe/Stockholm Arctic/Longyearbyen Atlantic/Jan_Mayen Europe/San_Marino Europe/Vatican\nCentral Europe Standard Time:Europe/Budapest Europe/Tirane Europe/Prague Europe/Podgorica Europe/Belgrade Europe/Ljubljana Europe/Bratislava\nRomance Standard Time:Europe/Paris Europe/Brussels Europe/Copenhagen Europe/Madrid Africa/Ceuta\nCentral European Standard Time:Europe/Warsaw Poland Europe/Sarajevo Europe/Zagreb Europe/Skopje\nW. Central Africa Standard Time:Africa/Lagos Africa/Luanda Africa/Porto-Novo Africa/Kinshasa Africa/Bangui Africa/Brazzaville Africa/Douala Africa/Algiers Africa/Libreville Africa/Malabo Africa/Niamey Africa/Ndjamena Africa/Tunis Etc/GMT-1\nJordan Standard Time:Asia/Amman\nGTB Standard Time:Europe/Bucharest Asia/Nicosia Europe/Nicosia Asia/Famagusta Europe/Athens\nMiddle East Standard Time:Asia/Beirut\nEgypt Standard Time:Africa/Cairo Egypt\nE. Europe Standard Time:Europe/Chisinau Europe/Tiraspol\nSyria Standard Time:Asia/Damascus\nWest Bank Standard Time:Asia/Hebron Asia/Gaza\nSouth Africa Standard Time:Africa/Johannesburg Africa/Bujumbura Africa/Gaborone Africa/Lubumbashi Africa/Maseru Africa/Blantyre Africa/Maputo Africa/Kigali Africa/Mbabane Africa/Lusaka Africa/Harare Etc/GMT-2\nFLE Standard Time:Europe/Kiev Europe/Mariehamn Europe/Sofia Europe/Tallinn Europe/Helsinki Europe/Vilnius Europe/Riga Europe/Uzhgorod Europe/Zaporozhye\nIsrael Standard Time:Asia/Jerusalem Asia/Tel_Aviv Israel\nSouth Sudan Standard Time:Africa/Juba\nKaliningrad Standard Time:Europe/Kaliningrad\nSudan Standard Time:Africa/Khartoum\nLibya Standard Time:Africa/Tripoli Libya\nNamibia Standard Time:Africa/Windhoek\nArabic Standard Time:Asia/Baghdad\nTurkey Standard Time:Europe/Istanbul Asia/Istanbul Turkey\nArab Standard Time:Asia/Riyadh Asia/Bahrain Asia/Kuwait Asia/Qatar Asia/Aden\nBelarus Standard Time:Europe/Minsk\nRussian Standard Time:Europe/Moscow W-SU Europe/Kirov Europe/Simferopol\nE. Africa Standard Time:Africa/Nairobi Antarctica/Syowa Africa/Djibouti Africa/Asmera Africa/Asmara Africa/Addis_Ababa Indian/Comoro Indian/Antananarivo Africa/Mogadishu Africa/Dar_es_Salaam Africa/Kampala Indian/Mayotte Etc/GMT-3\nIran Standard Time:Asia/Tehran Iran\nArabian Standard Time:Asia/Dubai Asia/Muscat Etc/GMT-4\nAstrakhan Standard Time:Europe/Astrakhan Europe/Ulyanovsk\nAzerbaijan Standard Time:Asia/Baku\nRussia Time Zone 3:Europe/Samara\nMauritius Standard Time:Indian/Mauritius Indian/Reunion Indian/Mahe\nSaratov Standard Time:Europe/Saratov\nGeorgian Standard Time:Asia/Tbilisi\nVolgograd Standard Time:Europe/Volgograd\nCaucasus Standard Time:Asia/Yerevan\nAfghanistan Standard Time:Asia/Kabul\nWest Asia Standard Time:Asia/Tashkent Antarctica/Mawson Asia/Oral Asia/Aqtau Asia/Aqtobe Asia/Atyrau Indian/Maldives Indian/Kerguelen Asia/Dushanbe Asia/Ashgabat Asia/Ashkhabad Asia/Samarkand Etc/GMT-5\nEkaterinburg Standard Time:Asia/Yekaterinburg\nPakistan Standard Time:Asia/Karachi\nQyzylorda Standard Time:Asia/Qyzylorda\nIndia Standard Time:Asia/Calcutta Asia/Kolkata\nSri Lanka Standard Time:Asia/Colombo\nNepal Standard Time:Asia/Katmandu Asia/Kathmandu\nCentral Asia Standard Time:Asia/Almaty Antarctica/Vostok Asia/Urumqi Asia/Kashgar Indian/Chagos Asia/Bishkek Asia/Qostanay Etc/GMT-6\nBangladesh Standard Time:Asia/Dhaka Asia/Dacca Asia/Thimphu Asia/Thimbu\nOmsk Standard Time:Asia/Omsk\nMyanmar Standard Time:Asia/Rangoon Asia/Yangon Indian/Cocos\nSE Asia Standard Time:Asia/Bangkok Antarctica/Davis Indian/Christmas Asia/Jakarta Asia/Pontianak Asia/Phnom_Penh Asia/Vientiane Asia/Saigon Asia/Ho_Chi_Minh Etc/GMT-7\nAltai Standard Time:Asia/Barnaul\nW. Mongolia Standard Time:Asia/Hovd\nNorth Asia Standard Time:Asia/Krasnoyarsk Asia/Novokuznetsk\nN. Central Asia Standard Time:Asia/Novosibirsk\nTomsk Standard Time:Asia/Tomsk\nChina Standard Time:Asia/Shanghai Asia/Chongqing Asia/Chungking Asia/Harbin PRC Asia/Hong_Kong Hongkong Asia/Macau Asia/Macao\nNorth Asia East Standard Time:Asia/Irkutsk\nSingapore Standard Time:Asia/Singapore Singapore Asia/Brunei Asia/Makassar Asia/Ujung_Pandang Asia/Kuala_Lumpur Asia/Kuching Asia/Manila Etc/GMT-8\nW. Australia Standard Time:Australia/Perth Australia/West\nTaipei Standard Time:Asia/Taipei ROC\nUlaanbaatar Standard Time:Asia/Ulaanbaatar Asia/Ulan_Bator Asia/Choibalsan\nAus Central W. Standard Time:Australia/Eucla\nTransbaikal Standard Time:Asia/Chita\nTokyo Standard Time:Asia/Tokyo Japan Asia/Jayapura Pacific/Palau Asia/Dili Etc/GMT-9\nNorth Korea Standard Time:Asia/Pyongyang\nKorea Standard Time:Asia/Seoul ROK\nYakutsk Standard Time:Asia/Yakutsk Asia/Khandyga\nCen. Australia Standard Time:Australia/Adelaide Australia/South Australia/Broken_Hill Australia/Yancowinna\nAUS Central Standard Time:Australia/Darwin Australia/North\nE. Australia Standard Time:Australia/Brisbane Australia/Queensland Australia/Lindeman\nAUS Eastern Standard Time:Australia/Sydney Australia/ACT Australia/Canberra Australia/NSW Australia/Melbourne Australia/Victoria\nWest Pacific Standard Time:Pacific/Port_Moresby Antarctica/DumontDUrville Pacific/Truk Pacific/Chuuk Pacific/Yap Pacific/Guam Pacific/Saipan Etc/GMT-10\nTasmania Standard Time:Australia/Hobart Australia/Tasmania Australia/Currie Antarctica/Macquarie\nVladivostok Standard Time:Asia/Vladivostok Asia/Ust-Nera\nLord Howe Standard Time:Australia/Lord_Howe Australia/LHI\nBougainville Standard Time:Pacific/Bougainville\nRussia Time Zone 10:Asia/Srednekolymsk\nMagadan Standard Time:Asia/Magadan\nNorfolk Standard Time:Pacific/Norfolk\nSakhalin Standard Time:Asia/Sakhalin\nCentral Pacific Standard Time:Pacific/Guadalcanal Antarctica/Casey Pacific/Ponape Pacific/Pohnpei Pacific/Kosrae Pacific/Noumea Pacific/Efate Etc/GMT-11\nRussia Time Zone 11:Asia/Kamchatka Asia/Anadyr\nNew Zealand Standard Time:Pacific/Auckland Antarctica/South_Pole NZ Antarctica/McMurdo\nUTC+12:Etc/GMT-12 Pacific/Tarawa Pacific/Majuro Pacific/Kwajalein Kwajalein Pacific/Nauru Pacific/Funafuti Pacific/Wake Pacific/Wallis\nFiji Standard Time:Pacific/Fiji\nChatham Islands Standard Time:Pacific/Chatham NZ-CHAT\nUTC+13:Etc/GMT-13 Pacific/Enderbury Pacific/Kanton Pacific/Fakaofo\nTonga Standard Time:Pacific/Tongatapu\nSamoa Standard Time:Pacific/Apia\nLine Islands Standard Time:Pacific/Kiritimati Etc/GMT-14"
